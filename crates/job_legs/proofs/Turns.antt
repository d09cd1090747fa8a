-- A leg that is run again from what it has sealed, each time that it is given up.
use Rattle.std.proofs.Common.{◌≡◌, ◌∙◌, ℕ, zero, suc, ◌+◌, ◌<◌, ◌≤◌, ◌^◌, List, [], ◌∷◌, ◌++◌, drop, length, Some, None, refl, sym, ap, subst, inl, inr, arith}
use Rattle.std.proofs.lemmas.List.{length-map}
use Rattle.std.specs.Prelude.{◌⊎◌, slice_index_or}
use Rattle.std.specs.List.{AllByRecursion}
use Rattle.plan_model.specs.PlanData.{PlanData}
use Rattle.plan_model.specs.Rows.{AreRowsOf}
use Rattle.plan_model.specs.declared.spec.Row.{Row}
use Rattle.stream_model.specs.declared.entry.Marked.{Marked}
use Rattle.stream_model.specs.InputData.{InputData, IsInput}
use Rattle.stream_model.specs.Watermarks.{IsBefore, IsCut}
use Rattle.stream_model.specs.PlanRows.{due_rows}
use Rattle.legs.specs.declared.cut.Cut.{Cut}
use Rattle.legs.specs.declared.fault.LegFault.{LegFault}
use Rattle.legs.specs.declared.fault.LegFault.TheVariants as fault
use Rattle.legs.specs.declared.leg.LegSpec.{LegSpec}
use Rattle.legs.specs.declared.stop.Stop.{Stop}
use Rattle.legs.specs.declared.stop.Stop.TheVariants.{Never, At}
use Rattle.legs.specs.Stops.{counts_of, until_of}
use Rattle.redistribute.specs.Stopping.{CanStop, Rises}
use Rattle.core_steps.specs.declared.finish.Finish.{Finish}
use Rattle.core_steps.specs.declared.finish.Finish.TheVariants.{Ended, Stopped, Abandoned}
use Rattle.core_steps.specs.declared.sealing.Sealed.{Sealed}
use Rattle.core_steps.proofs.Ending.{never_asked}
use Rattle.job_legs.specs.Laws.{RowsAddUp}
use Rattle.job_legs.specs.Reached.{ComesTo, HasGiven, HasSaved, IsAt, IsAfter, IsGivenUp, IsLegGiven, rows_of, saved_of, savepoints_to, taken_of}
use Rattle.job_legs.specs.Running.{CanRunFrom, Forbids, HasRun, IsStepRefusal, savepoints_of}
use Rattle.job_legs.specs.declared.running.Reached.{Reached}
use Rattle.job_legs.proofs.Taken.{after}

-- ---- what is left of savepoints behind one of them

drop_all : {X : Type 0} (P : X → Type 0) (n : ℕ) (xs : List X) → AllByRecursion P xs → AllByRecursion P (drop n xs)
drop_all P zero xs all = all
drop_all P (suc n) [] all = all
drop_all P (suc n) (x ∷ xs) all = drop_all P n xs all.1

one_of : {X : Type 0} (P : X → Type 0) (d : X) (n : ℕ) (xs : List X) → n < length xs → AllByRecursion P xs → P (slice_index_or xs n d)
one_of P d n [] few all = absurd (omega (arith, few))
one_of P d zero (x ∷ xs) few all = all.0
one_of P d (suc n) (x ∷ xs) few all = one_of P d n xs (omega (arith, few)) all.1

rises_behind : (begin : List (List ℕ)) (n : ℕ) (cuts : List (List (List ℕ))) → n < length cuts → Rises begin cuts → Rises (slice_index_or cuts n []) (drop (suc n) cuts)
rises_behind begin n [] few rises = absurd (omega (arith, few))
rises_behind begin zero (cut ∷ cuts) few rises = rises.1
rises_behind begin (suc n) (cut ∷ cuts) few rises = rises_behind cut n cuts (omega (arith, few)) rises.1

pub dropped_length : {X : Type 0} (n : ℕ) (xs : List X) → n ≤ length xs → n + length (drop n xs) ≡ length xs
dropped_length zero xs few = omega (arith)
dropped_length (suc n) [] few = absurd (omega (arith, few))
dropped_length (suc n) (x ∷ xs) few = let rest = dropped_length n xs (omega (arith, few)) in omega (arith, rest)

dropped_counts : (n : ℕ) (cuts : List Cut) → counts_of (drop n cuts) ≡ drop n (counts_of cuts)
dropped_counts zero cuts = refl
dropped_counts (suc n) [] = refl
dropped_counts (suc n) (cut ∷ cuts) = dropped_counts n cuts

counts_length : (cuts : List Cut) → length (counts_of cuts) ≡ length cuts
counts_length cuts = length-map cuts (λ (cut : Cut). cut.counts)

-- a leg can go on so from one of its savepoints
can_behind : (i : InputData) (begin : List (List ℕ)) (saves : List (List (List ℕ))) (stop : Stop) (n : ℕ) → n < length saves → CanRunFrom i.sources begin saves stop → CanRunFrom i.sources (slice_index_or saves n []) (drop (suc n) saves) stop
can_behind i begin saves stop n few can = (
  stop_behind stop refl,
  record {
    few = (let long = dropped_length (suc n) saves few in let most = can.1.few in omega (arith, long, most));
    cuts = drop_all (IsCut i.sources) (suc n) saves can.1.cuts;
    rises = rises_behind begin n saves few can.1.rises;
    before = λ end e. drop_all (λ save. IsBefore save end) (suc n) saves (can.1.before end e);
    asked = λ e. absurd (never_asked stop e);
  },
)
  where
    stop_behind : (at : Stop) → stop ≡ at → CanStop i.sources (slice_index_or saves n []) at
    stop_behind Never same = tt
    stop_behind (At end) same = (
      (subst (CanStop i.sources begin) same can.0).0,
      one_of (λ save. IsBefore save end.counts) [] n saves few (can.1.before end.counts (ap until_of same)),
    )

-- what can run so is not forbidden
allowed : (sources : List (List (List Marked))) (begin : List (List ℕ)) (saves : List (List (List ℕ))) (stop : Stop) (f : LegFault) → CanRunFrom sources begin saves stop → Forbids sources begin saves stop f → ⊥
allowed sources begin saves stop fault.StopRange can forbids = forbids can.0
allowed sources begin saves stop fault.SaveRange can forbids = forbids.1 can.1
allowed sources begin saves stop fault.Memory can forbids = forbids
allowed sources begin saves stop fault.Legs can forbids = forbids
allowed sources begin saves stop fault.NotJson can forbids = forbids
allowed sources begin saves stop fault.Member can forbids = forbids
allowed sources begin saves stop fault.Choices can forbids = forbids
allowed sources begin saves stop fault.Threads can forbids = forbids
allowed sources begin saves stop (fault.Scale place f) can forbids = forbids

-- ---- what a leg has given

-- one that was not given up has come to where it was to go
came_of : (p : PlanData) (i : InputData) (cut : List (List ℕ)) (number : ℕ) (saves : List (List (List ℕ))) (stop : Stop) (finish : Finish) → HasGiven p i cut number saves stop finish → taken_of finish ≡ None → ComesTo p i cut number saves stop finish
came_of p i cut number saves stop (Ended rows sealed) given none = given
came_of p i cut number saves stop (Stopped rows s) given none = given
came_of p i cut number saves stop (Abandoned x) given none = absurd cc

-- and one that was
record WasGivenUp (p : PlanData) (i : InputData) (cut : List (List ℕ)) (number : ℕ) (saves : List (List (List ℕ))) (finish : Finish) (taken : ℕ) : Type 0 where
  seal : Sealed
  up : IsGivenUp p i cut number saves seal
  rows : rows_of finish ≡ seal.rows
  saved : saved_of finish ≡ Some seal.savepoint
  barrier : taken ≡ seal.barrier

given_up : (p : PlanData) (i : InputData) (cut : List (List ℕ)) (number : ℕ) (saves : List (List (List ℕ))) (stop : Stop) (finish : Finish) (taken : ℕ) → HasGiven p i cut number saves stop finish → taken_of finish ≡ Some taken → WasGivenUp p i cut number saves finish taken
given_up p i cut number saves stop (Ended rows sealed) taken given some = absurd cc
given_up p i cut number saves stop (Stopped rows s) taken given some = absurd cc
given_up p i cut number saves stop (Abandoned x) taken given some = record { seal = x; up = given; rows = refl; saved = refl; barrier = sym cc }

-- ---- a leg on its way

-- nothing of a leg has run yet, or it was given up: the job has come to a cut from which what is left of it can run,
-- and is after as many savepoints
pub record IsBetween (p : PlanData) (i : InputData) (cut : List (List ℕ)) (number : ℕ) (leg : LegSpec) (saves : List Cut) (r : Reached) : Type 0 where
  pub here : List (List ℕ)
  pub count : ℕ
  pub at : IsAt p i here count r
  pub sum : count + length saves ≡ number + length leg.saves
  pub stage : ((here ≡ cut) × (saves ≡ leg.saves)) ⊎ (CanRunFrom i.sources cut (counts_of leg.saves) leg.stop × CanRunFrom i.sources here (counts_of saves) leg.stop)

pub begins : (p : PlanData) (i : InputData) (cut : List (List ℕ)) (number : ℕ) (leg : LegSpec) (r : Reached) → IsAt p i cut number r → IsBetween p i cut number leg leg.saves r
begins p i cut number leg r at = record { here = cut; count = number; at = at; sum = refl; stage = inl (refl, refl) }

module _ (p : PlanData) (i : InputData) (cut : List (List ℕ)) (number : ℕ) (leg : LegSpec) (saves : List Cut) (old : Reached) (few : number < 2 ^ 62) (b : IsBetween p i cut number leg saves old) where
  -- so that numbers stay small
  pub bounded : b.count ≤ 2 ^ 62 + 1024
  bounded = elim b.stage [
    | inl first ↦ (let sum = b.sum in let same : length saves ≡ length leg.saves = ap (λ (cuts : List Cut). length cuts) first.1 in omega (arith, few, sum, same))
    | inr again ↦ (let sum = b.sum in let most = again.0.1.few in let long = counts_length leg.saves in omega (arith, few, sum, most, long))
  ]

  pub refused : (other : LegFault → Type 0) (f : LegFault) → IsStepRefusal other i b.here (counts_of saves) leg.stop f → IsStepRefusal other i cut (counts_of leg.saves) leg.stop f
  refused other f (inr besides) = inr besides
  refused other f (inl forbids) = elim b.stage [
    | inl first ↦ inl (subst (λ c. Forbids i.sources c (counts_of leg.saves) leg.stop f) first.0 (subst (λ (cuts : List Cut). Forbids i.sources b.here (counts_of cuts) leg.stop f) first.1 forbids))
    | inr again ↦ absurd (allowed i.sources b.here (counts_of saves) leg.stop f again.1 forbids)
  ]

  can_first : CanRunFrom i.sources b.here (counts_of saves) leg.stop → CanRunFrom i.sources cut (counts_of leg.saves) leg.stop
  can_first can = elim b.stage [
    | inl first ↦ subst (λ c. CanRunFrom i.sources c (counts_of leg.saves) leg.stop) first.0 (subst (λ (cuts : List Cut). CanRunFrom i.sources b.here (counts_of cuts) leg.stop) first.1 can)
    | inr again ↦ again.0
  ]

  -- it came to where it was to stop
  pub comes : IsInput i → RowsAddUp → (new : Reached) (finish : Finish) → IsLegGiven p i b.here b.count (counts_of saves) leg.stop finish → taken_of finish ≡ None
      → new.rows.items ≡ old.rows.items ++ rows_of finish → new.savepoint ≡ saved_of finish → HasRun p i cut number leg new
  comes input add new finish given none rows saved =
      let came = came_of p i b.here b.count (counts_of saves) leg.stop finish given.given none in
      let can : CanRunFrom i.sources b.here (counts_of saves) leg.stop = (given.can, given.save) in
      let sum = b.sum in
      let long = counts_length saves in
      let all = counts_length leg.saves in
      let count : b.count + savepoints_to (counts_of saves) leg.stop ≡ number + savepoints_of leg = omega (arith, sum, long, all) in
      record {
        can = can_first can;
        after = subst (λ n. IsAfter p i leg.stop n new) count (after p i input add b.here b.count old new (counts_of saves) leg.stop finish b.at can.0 came rows saved);
      }

  -- the job goes on behind one of its savepoints
  goes_behind : IsInput i → RowsAddUp → (new : Reached) (x : Sealed) → CanRunFrom i.sources b.here (counts_of saves) leg.stop → IsGivenUp p i b.here b.count (counts_of saves) x
      → new.rows.items ≡ old.rows.items ++ x.rows → new.savepoint ≡ Some x.savepoint → IsBetween p i cut number leg (drop x.barrier saves) new
  goes_behind input add new x can up rows saved =
      let there : List (List ℕ) = slice_index_or (counts_of saves) up.passed [] in
      let sum = b.sum in
      let barrier = up.barrier in
      let passed = up.few in
      let long = counts_length saves in
      let left : x.barrier + length (drop x.barrier saves) ≡ length saves = dropped_length x.barrier saves (omega (arith, barrier, passed, long)) in
      let behind : drop (suc up.passed) (counts_of saves) ≡ counts_of (drop x.barrier saves) = ap (λ n. drop n (counts_of saves)) (sym up.barrier) ∙ sym (dropped_counts x.barrier saves) in
      record {
        here = there;
        count = b.count + x.barrier;
        at = record {
          is_cut = up.saved.left.cut;
          rows = subst (AreRowsOf (due_rows p i.sources there)) (sym rows) (add p i b.here there old.rows.items x.rows input up.no_earlier up.saved.left.cut b.at.rows up.delivered);
          saved = subst (HasSaved p i there (b.count + x.barrier)) (sym saved) up.saved;
        };
        sum = omega (arith, sum, left);
        stage = inr (can_first can, subst (λ cuts. CanRunFrom i.sources there cuts leg.stop) behind (can_behind i b.here (counts_of saves) leg.stop up.passed up.few can));
      }

  -- it was given up, with some of its savepoints taken
  pub taken_some : (finish : Finish) (taken : ℕ) → IsLegGiven p i b.here b.count (counts_of saves) leg.stop finish → taken_of finish ≡ Some taken → (0 < taken) × (taken ≤ length saves)
  taken_some finish taken given some =
      let was = given_up p i b.here b.count (counts_of saves) leg.stop finish taken given.given some in
      let same = was.barrier in
      let barrier = was.up.barrier in
      let few_passed = was.up.few in
      let long = counts_length saves in
      (omega (arith, same, barrier), omega (arith, same, barrier, few_passed, long))

  pub goes_on : IsInput i → RowsAddUp → (new : Reached) (finish : Finish) (taken : ℕ) → IsLegGiven p i b.here b.count (counts_of saves) leg.stop finish → taken_of finish ≡ Some taken
      → new.rows.items ≡ old.rows.items ++ rows_of finish → new.savepoint ≡ saved_of finish → IsBetween p i cut number leg (drop taken saves) new
  goes_on input add new finish taken given some all_rows last =
      let was = given_up p i b.here b.count (counts_of saves) leg.stop finish taken given.given some in
      let x = was.seal in
      let up = was.up in
      let can : CanRunFrom i.sources b.here (counts_of saves) leg.stop = (given.can, given.save) in
      let rows : new.rows.items ≡ old.rows.items ++ x.rows = all_rows ∙ ap (λ (rs : List Row). old.rows.items ++ rs) was.rows in
      let saved : new.savepoint ≡ Some x.savepoint = last ∙ was.saved in
      subst (λ n. IsBetween p i cut number leg (drop n saves) new) (sym was.barrier) (goes_behind input add new x can up rows saved)
