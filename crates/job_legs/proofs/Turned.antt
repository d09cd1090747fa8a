-- Legs that have their turns one after the other.
use Rattle.std.proofs.Common.{◌≡◌, ◌∙◌, ℕ, zero, suc, ◌+◌, ◌-◌, ◌≤◌, List, [], ◌∷◌, ◌++◌, length, drop, take, Option, Result, Ok, Some, None, refl, sym, ap, subst, arith}
use Rattle.std.specs.Prelude.{slice_get, slice_index_or, IfOk}
use Rattle.std.proofs.lemmas.List.{drop-drop}
use Rattle.core_steps.specs.declared.finish.Finish.{Finish}
use Rattle.dataflow_model.specs.Leg.{Until}
use Rattle.layout_rules.specs.ScaleData.{ScaleData}
use Rattle.legs.specs.declared.choice.Choice.{Choice}
use Rattle.legs.specs.declared.cut.Cut.{Cut}
use Rattle.legs.specs.declared.fault.LegFault.{LegFault}
use Rattle.legs.specs.declared.leg.LegSpec.{LegSpec}
use Rattle.legs.specs.declared.stop.Stop.{Stop}
use Rattle.legs.specs.Stops.{counts_of, until_of}
use Rattle.plan_model.specs.PlanData.{PlanData}
use Rattle.redistribute.specs.StartData.{StartData}
use Rattle.restarts.specs.Laws.{IsStartAt}
use Rattle.stream_model.specs.InputData.{InputData}
use Rattle.job_legs.specs.Reached.{HasSaved, IsLegGiven, rows_of, saved_of, taken_of}
use Rattle.job_legs.specs.Running.{saves_in, savepoints_in}
use Rattle.job_legs.specs.Turns.{HaveTurned, IsTurn, over_after}
use Rattle.job_legs.specs.Turns.HaveTurned.{none, more}
use Rattle.job_legs.specs.declared.running.Reached.{Reached}
use Rattle.job_legs.proofs.Turns.{dropped_length}

-- what stands at a place behind which so much is left
at_drop : {X : Type 0} (xs : List X) (n : ℕ) (x : X) (ys : List X) → drop n xs ≡ x ∷ ys → (slice_get xs n ≡ Some x) × (drop (suc n) xs ≡ ys)
at_drop [] zero x ys e = absurd cc
at_drop [] (suc n) x ys e = absurd cc
at_drop (y ∷ xs) zero x ys e = (cc, cc)
at_drop (y ∷ xs) (suc n) x ys e = at_drop xs n x ys e

-- of the first of these legs, the savepoints that are left are the last of its own
abbrev pub IsRestOf : List LegSpec → List Cut → Type 0
IsRestOf [] saves = Unit {0}
IsRestOf (leg ∷ rest) saves = (taken : ℕ) × (taken ≤ length leg.saves) × (saves ≡ drop taken leg.saves)

pub all_left : (legs : List LegSpec) → IsRestOf legs (saves_in legs)
all_left [] = tt
all_left (leg ∷ rest) = (0, omega arith, refl)

pub fewer_left : (leg : LegSpec) (rest : List LegSpec) (saves : List Cut) (taken : ℕ) → taken ≤ length saves → IsRestOf (leg ∷ rest) saves → IsRestOf (leg ∷ rest) (drop taken saves)
fewer_left leg rest saves taken few kept =
    let long = dropped_length kept.0 leg.saves kept.1 in
    let same = ap (λ (cuts : List Cut). length cuts) kept.2 in
    (kept.0 + taken, omega (arith, few, long, same), ap (drop taken) kept.2 ∙ drop-drop taken kept.0 leg.saves)

-- the savepoints of legs are those of the first so many, and of the others
savepoints_split : (legs : List LegSpec) (n : ℕ) → savepoints_in legs ≡ savepoints_in (take n legs) + savepoints_in (drop n legs)
savepoints_split legs zero = omega arith
savepoints_split [] (suc n) = refl
savepoints_split (leg ∷ legs) (suc n) = let rest = savepoints_split legs n in omega (arith, rest)

-- a leg that is to take so many more has the number behind those before it and its own that were taken
counted_of : (legs : List LegSpec) (over : ℕ) (leg : LegSpec) (rest : List LegSpec) → drop over legs ≡ leg ∷ rest → (first number : ℕ) → first + savepoints_in (leg ∷ rest) ≡ savepoints_in legs → (saves : List Cut) → number + length saves ≡ first + length leg.saves
    → (kept : IsRestOf (leg ∷ rest) saves) → number ≡ savepoints_in (take over legs) + kept.0
counted_of legs over leg rest behind first number all saves sum kept =
    let split = savepoints_split legs over in
    let there = ap savepoints_in behind in
    let long = dropped_length kept.0 leg.saves kept.1 in
    let same = ap (λ (cuts : List Cut). length cuts) kept.2 in
    omega (arith, split, there, all, sum, long, same)

module _ (by : PlanData → ScaleData → InputData → StartData → List (List (List ℕ)) → Until → List Choice → Finish → Type 0) (p : PlanData) (i : InputData) (legs : List LegSpec) (lists : List (List Choice)) where
  -- the legs before these have had their turns
  pub record AreTurned (rest : List LegSpec) (r : Reached) : Type 0 where
    pub over : ℕ
    pub some : over + length rest ≡ length legs
    pub left : drop over legs ≡ rest
    pub turned : HaveTurned by p i legs lists over r.rows.items r.savepoint

  pub none_turned : (r : Reached) → r.rows.items ≡ [] → r.savepoint ≡ None → AreTurned legs r
  none_turned r rows saved = record {
    over = 0;
    some = omega (arith);
    left = refl;
    turned = subst (λ xs. HaveTurned by p i legs lists 0 xs r.savepoint) (sym rows) (subst (HaveTurned by p i legs lists 0 []) (sym saved) none);
  }

  module _ (leg : LegSpec) (rest : List LegSpec) (old : Reached) (are : AreTurned (leg ∷ rest) old) where
    -- a turn of the first of them
    pub turn_of : (left : List LegSpec) → left ≡ leg ∷ rest → (cut : List (List ℕ)) (number : ℕ) → HasSaved p i cut number old.savepoint → (start : StartData) → IsStartAt p i cut number start → (saves : List Cut) → IsRestOf (leg ∷ rest) saves → (first : ℕ) → first + savepoints_in (leg ∷ rest) ≡ savepoints_in legs → number + length saves ≡ first + length leg.saves → (stop : Stop) → stop ≡ leg.stop
        → (choices : List Choice) → choices ≡ slice_index_or lists (length legs - length left) [] → (finish : Finish) → IsLegGiven p i cut number (counts_of saves) leg.stop finish
        → (result : Result Finish LegFault) → result ≡ Ok finish → IfOk result (by p leg.scale i start (counts_of saves) (until_of stop) choices)
        → IsTurn by p i legs lists are.over old.savepoint finish
    turn_of left same cut number saved start starts saves kept first all sum stop stops choices listed finish gives result gave goes =
        let some = are.some in
        let long = ap length same in
        let place : length legs - length left ≡ are.over = omega (arith, some, long) in
        let list : choices ≡ slice_index_or lists are.over [] = listed ∙ ap (λ n. slice_index_or lists n []) place in
        let went : by p leg.scale i start (counts_of saves) (until_of stop) choices finish = subst (λ r. IfOk r (by p leg.scale i start (counts_of saves) (until_of stop) choices)) gave goes in
        let so : by p leg.scale i start (counts_of saves) (until_of leg.stop) (slice_index_or lists are.over []) finish = subst (λ cs. by p leg.scale i start (counts_of saves) (until_of leg.stop) cs finish) list (subst (λ s. by p leg.scale i start (counts_of saves) (until_of s) choices finish) stops went) in
        record {
          leg = leg;
          is = (at_drop legs are.over leg rest are.left).0;
          cut = cut;
          number = number;
          saved = saved;
          start = start;
          starts = starts;
          taken = kept.0;
          few = kept.1;
          counted = counted_of legs are.over leg rest are.left first number all saves sum kept;
          gives = subst (λ (cuts : List Cut). IsLegGiven p i cut number (counts_of cuts) leg.stop finish) kept.2 gives;
          goes = subst (λ (cuts : List Cut). by p leg.scale i start (counts_of cuts) (until_of leg.stop) (slice_index_or lists are.over []) finish) kept.2 so;
        }

    turned_more : (new : Reached) (finish : Finish) (taken : Option ℕ) → IsTurn by p i legs lists are.over old.savepoint finish → taken_of finish ≡ taken → new.rows.items ≡ old.rows.items ++ rows_of finish → new.savepoint ≡ saved_of finish
        → HaveTurned by p i legs lists (over_after are.over taken) new.rows.items new.savepoint
    turned_more new finish taken turn is rows saved =
        subst (λ t. HaveTurned by p i legs lists (over_after are.over t) new.rows.items new.savepoint) is
        (subst (λ xs. HaveTurned by p i legs lists (over_after are.over (taken_of finish)) xs new.savepoint) (sym rows)
        (subst (HaveTurned by p i legs lists (over_after are.over (taken_of finish)) (old.rows.items ++ rows_of finish)) (sym saved) (more are.turned finish turn)))

    pub turned_again : (left : List LegSpec) → left ≡ leg ∷ rest → (new : Reached) (finish : Finish) (taken : ℕ) → IsTurn by p i legs lists are.over old.savepoint finish → taken_of finish ≡ Some taken → new.rows.items ≡ old.rows.items ++ rows_of finish → new.savepoint ≡ saved_of finish
        → AreTurned left new
    turned_again left same new finish taken turn is rows saved = subst (λ legs. AreTurned legs new) (sym same) (record { over = are.over; some = are.some; left = are.left; turned = turned_more new finish (Some taken) turn is rows saved })

    pub turned_over : (left : List LegSpec) → left ≡ rest → (new : Reached) (finish : Finish) → IsTurn by p i legs lists are.over old.savepoint finish → taken_of finish ≡ None → new.rows.items ≡ old.rows.items ++ rows_of finish → new.savepoint ≡ saved_of finish
        → AreTurned left new
    turned_over left same new finish turn is rows saved = subst (λ legs. AreTurned legs new) (sym same) (record {
      over = suc are.over;
      some = (let e = are.some in omega (arith, e));
      left = (at_drop legs are.over leg rest are.left).1;
      turned = turned_more new finish None turn is rows saved;
    })
