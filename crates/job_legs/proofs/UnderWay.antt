-- Legs that are on their way.
use Rattle.std.proofs.Common.{◌≡◌, ◌∙◌, ℕ, suc, ◌+◌, ◌*◌, ◌-◌, ◌<◌, ◌≤◌, ◌^◌, nat_le, true, ◌&&◌, List, [], ◌∷◌, length, take, filter, drop, ◌++◌, MatchResult, Result, Option, Some, None, refl, sym, ap, subst, inl, inr, arith}
use Rattle.std.proofs.lemmas.Bool.{and_parts, leb-true}
use Rattle.std.specs.List.{All, list_all}
use Rattle.std.proofs.lemmas.List.Elements.{All-head}
use Rattle.std.specs.Option.{option_to_list}
use Rattle.plan_model.specs.declared.spec.Pane.{Pane}
use Rattle.plan_model.specs.Rows.{row_is_at}
use Rattle.plan_model.specs.PlanData.{PlanData, IsPlan}
use Rattle.stream_model.specs.declared.entry.Marked.{Marked}
use Rattle.stream_model.specs.InputData.{InputData, IsInput, BelongsTo}
use Rattle.stream_model.specs.Watermarks.{empty_cut}
use Rattle.stream_model.specs.PlanRows.{due_rows}
use Rattle.input_flow.proofs.Facts.{empty_is_cut}
use Rattle.dataflow_laws.specs.Compiled.{cut_to}
use Rattle.layout_rules.specs.Scale.{IsScale}
use Rattle.legs.specs.declared.limits.TheConstants.{MOST_LEGS}
use Rattle.legs.specs.declared.fault.LegFault.{LegFault}
use Rattle.legs.specs.declared.leg.LegSpec.{LegSpec}
use Rattle.legs.specs.declared.cut.Cut.{Cut}
use Rattle.legs.specs.declared.stop.Stop.{Stop}
use Rattle.legs.specs.declared.stop.Stop.TheVariants.{Never, At}
use Rattle.legs.specs.Requirements.{are_legs, is_stop, stops}
use Rattle.legs.specs.Stops.{counts_of, until_of}
use Rattle.redistribute.specs.Stopping.{CanSaveAt}
use Rattle.redistribute.specs.StartData.{StartData}
use Rattle.restarts.specs.Laws.{IsStartAt}
use Rattle.core_steps.specs.declared.finish.Finish.{Finish}
use Rattle.savepoint_codec.specs.declared.savepoint.Contents.{Contents}
use Rattle.job_legs.specs.Reached.{HasSaved, IsAfter, IsAt, IsLeftBy, IsLegGiven, rows_of, saved_of, savepoints_to, taken_of}
use Rattle.job_legs.specs.Laws.{RowsAddUp}
use Rattle.job_legs.specs.Ways.{AnswersLeg}
use Rattle.job_legs.specs.Running.{CanRunLegs, ForbidsLegs, HasRun, HaveRun, IsRunRefusal, IsStepRefusal, last_stop, saves_in, savepoints_in, savepoints_of}
use Rattle.job_legs.proofs.Turns.{IsBetween, begins, bounded, comes, goes_on, refused, taken_some}
use Rattle.job_legs.proofs.Given.{given}
use Rattle.job_legs.specs.declared.running.Reached.{Reached}

-- each leg that has one after it stops
pub GoOn : List LegSpec → Type 0
GoOn [] = Unit {0}
GoOn (leg ∷ []) = Unit {0}
GoOn (leg ∷ next ∷ legs) = (stops leg.stop ≡ true) × GoOn (next ∷ legs)

-- a job has come to where these legs of its list begin
pub record IsBefore (p : PlanData) (i : InputData) (all legs : List LegSpec) (r : Reached) : Type 0 where
  pub cut : List (List ℕ)
  pub number : ℕ
  pub at : IsAt p i cut number r
  pub last : last_stop legs ≡ last_stop all
  pub count : number + savepoints_in legs ≡ savepoints_in all
  -- so many legs came before
  pub done : ℕ
  pub some : done + length legs ≡ length all
  pub few : length all ≤ 1024
  pub bounded : number ≤ 1025 * done
  pub can : CanRunLegs i cut legs → CanRunLegs i (empty_cut i.sources) all
  pub forbids : (fault : LegFault) → ForbidsLegs i cut legs fault → ForbidsLegs i (empty_cut i.sources) all fault
  pub goes : GoOn legs

-- the first of them is on its way, or was given up, so that these of its savepoints are left
pub record IsTurning (p : PlanData) (i : InputData) (all : List LegSpec) (leg : LegSpec) (more : List LegSpec) (saves : List Cut) (r : Reached) : Type 0 where
  pub old : Reached
  pub before : IsBefore p i all (leg ∷ more) old
  pub between : IsBetween p i before.cut before.number leg saves r

-- so it is, or all have run
abbrev pub IsOnWay : PlanData → InputData → List LegSpec → List LegSpec → List Cut → Reached → Type 0
IsOnWay p i all [] saves r = HaveRun p i all r
IsOnWay p i all (leg ∷ more) saves r = IsTurning p i all leg more saves r

-- what is still to be done: turns for the legs behind the first, and for their savepoints
abbrev pub turns_behind : List LegSpec → ℕ
turns_behind [] = 0
turns_behind (leg ∷ more) = 1 + length (saves_in more) + turns_behind more

but_one : (leg : LegSpec) (legs : List LegSpec) → length (leg ∷ legs) - 1 ≡ length legs
but_one leg legs = omega (arith)

goes_of : (legs : List LegSpec) → list_all is_stop (take (length legs - 1) legs) ≡ true → GoOn legs
unfolding GoOn
goes_of [] h = tt
goes_of (leg ∷ []) h = tt
goes_of (leg ∷ next ∷ legs) h =
    let b = and_parts (stops leg.stop) (list_all is_stop (take (length legs) (next ∷ legs))) (subst (λ n. list_all is_stop (take n (leg ∷ next ∷ legs)) ≡ true) (but_one leg (next ∷ legs)) h) in
    (b.0, goes_of (next ∷ legs) (subst (λ n. list_all is_stop (take n (next ∷ legs)) ≡ true) (sym (but_one next legs)) b.1))

pub start : (p : PlanData) (i : InputData) (all : List LegSpec) (r : Reached) → are_legs all ≡ true → ((q : Pane) → due_rows p i.sources (empty_cut i.sources) q ≡ None) → r.rows.items ≡ [] → r.savepoint ≡ None → IsOnWay p i all all (saves_in all) r
unfolding are_legs
start p i [] r list none rows saved = absurd cc
start p i (leg ∷ legs) r list none rows saved =
    let all = leg ∷ legs in
    let parts = and_parts (nat_le 1 (length all) && nat_le (length all) MOST_LEGS) (list_all is_stop (take (length all - 1) all)) list in
    let before : IsBefore p i all all r = record {
      cut = empty_cut i.sources;
      number = 0;
      at = record {
        is_cut = empty_is_cut i.sources;
        rows = λ q. ap (filter (row_is_at q)) rows ∙ sym (ap option_to_list (none q));
        saved = subst (HasSaved p i (empty_cut i.sources) 0) (sym saved) (refl, refl);
      };
      last = refl;
      count = omega arith;
      done = 0;
      some = omega arith;
      few = leb-true (length all) MOST_LEGS (and_parts (nat_le 1 (length all)) (nat_le (length all) MOST_LEGS) parts.0).1;
      bounded = omega arith;
      can = λ h. h;
      forbids = λ fault h. h;
      goes = goes_of all parts.1;
    } in
    record { old = r; before = before; between = begins p i before.cut before.number leg r before.at }

-- a leg that is to stop stops at a cut
cut_in : (stop : Stop) → stops stop ≡ true → (end : Cut) × (stop ≡ At end)
cut_in Never h = absurd cc
cut_in (At end) h = (end, refl)

saved_at : (p : PlanData) (i : InputData) (end : Cut) (number : ℕ) (saved : Option Contents) → IsLeftBy p i number (At end) saved → HasSaved p i end.counts number saved
saved_at p i end number None h = absurd h
saved_at p i end number (Some s) h = h

at_end : (p : PlanData) (i : InputData) (end : Cut) (number : ℕ) (r : Reached) → IsAfter p i (At end) number r → IsAt p i end.counts number r
at_end p i end number r a = record { is_cut = a.is_cut; rows = a.rows; saved = saved_at p i end number r.savepoint a.saved }

below : (n done k : ℕ) (leg : LegSpec) (legs : List LegSpec) → n ≤ 1025 * done → done + length (leg ∷ legs) ≡ k → k ≤ 1024 → n < 2 ^ 62
below n done k leg legs most some few = omega (arith, most, some, few)

-- a leg takes few savepoints
few_of : (sources : List (List (List Marked))) (cut : List (List ℕ)) (leg : LegSpec) → CanSaveAt sources cut (counts_of leg.saves) (until_of leg.stop) → savepoints_of leg ≤ 1025
few_of sources cut leg save = of_stop leg.stop
  where
    of_stop : (at : Stop) → savepoints_to (counts_of leg.saves) at ≤ 1025
    of_stop Never = let most = save.few in omega (arith, most)
    of_stop (At end) = let most = save.few in omega (arith, most)

module _ (p : PlanData) (i : InputData) (all : List LegSpec) (leg : LegSpec) (more : List LegSpec) (old : Reached) (w : IsBefore p i all (leg ∷ more) old) where
  pub small : w.number < 2 ^ 62
  small = below w.number w.done (length all) leg more w.bounded w.some w.few

  -- where a leg is refused, so are all
  pub refused_all : (other : LegFault → Type 0) (fault : LegFault) → IsStepRefusal other i w.cut (counts_of leg.saves) leg.stop fault → IsRunRefusal other i all fault
  refused_all other fault (inl forbids) = inl (w.forbids fault (inl forbids))
  refused_all other fault (inr besides) = inr besides

-- one more leg has run
pub step : (p : PlanData) (i : InputData) (all : List LegSpec) (leg : LegSpec) (more : List LegSpec) (old new : Reached) (w : IsBefore p i all (leg ∷ more) old) → HasRun p i w.cut w.number leg new → IsOnWay p i all more (saves_in more) new
unfolding GoOn
step p i all leg [] old new w g =
    let count = w.count in
    let number : w.number + savepoints_of leg ≡ savepoints_in all = omega (arith, count) in
    record {
      can = w.can (g.can, tt);
      after = subst (λ n. IsAfter p i (last_stop all) n new) number (subst (λ stop. IsAfter p i stop (w.number + savepoints_of leg) new) w.last g.after);
    }
step p i all leg (next ∷ more) old new w g =
    let c = cut_in leg.stop w.goes.0 in
    let same : cut_to i (until_of leg.stop) ≡ c.0.counts = ap (λ stop. cut_to i (until_of stop)) c.1 in
    let count = w.count in
    let some = w.some in
    let bounded = w.bounded in
    let most = few_of i.sources w.cut leg g.can.1 in
    let before : IsBefore p i all (next ∷ more) new = record {
      cut = c.0.counts;
      number = w.number + savepoints_of leg;
      at = at_end p i c.0 (w.number + savepoints_of leg) new (subst (λ stop. IsAfter p i stop (w.number + savepoints_of leg) new) c.1 g.after);
      last = w.last;
      count = omega (arith, count);
      done = suc w.done;
      some = omega (arith, some);
      few = w.few;
      bounded = omega (arith, bounded, most);
      can = λ h. w.can (g.can, subst (λ cut. CanRunLegs i cut (next ∷ more)) (sym same) h);
      forbids = λ fault h. w.forbids fault (inr (g.can, subst (λ cut. ForbidsLegs i cut (next ∷ more) fault) (sym same) h));
      goes = w.goes.1;
    } in
    record { old = new; before = before; between = begins p i before.cut before.number next new before.at }

-- ---- one turn

module _ (p : PlanData) (i : InputData) (all : List LegSpec) (leg : LegSpec) (more : List LegSpec) (saves : List Cut) (r : Reached) (t : IsTurning p i all leg more saves r) where
  few_before : t.before.number < 2 ^ 62
  few_before = small p i all leg more t.old t.before

  -- what the leg gives from where the job has come to
  pub turned : IsPlan p → IsInput i → BelongsTo p i → (s : StartData) → ((cut : List (List ℕ)) (number : ℕ) → HasSaved p i cut number r.savepoint → IsStartAt p i cut number s) → (other : LegFault → Type 0) (result : Result Finish LegFault)
      → AnswersLeg other p i s (counts_of saves) leg.stop result → MatchResult result (IsLegGiven p i t.between.here t.between.count (counts_of saves) leg.stop) (IsStepRefusal other i t.between.here (counts_of saves) leg.stop)
  turned plan input belongs s starts other result answered =
      let b = t.between in
      given p i plan input belongs b.here b.count s (starts b.here b.count b.at.saved) (bounded p i t.before.cut t.before.number leg saves r few_before b) (counts_of saves) leg.stop other result answered

  pub turn_refused : (other : LegFault → Type 0) (fault : LegFault) → IsStepRefusal other i t.between.here (counts_of saves) leg.stop fault → IsRunRefusal other i all fault
  turn_refused other fault why = refused_all p i all leg more t.old t.before other fault (refused p i t.before.cut t.before.number leg saves r few_before t.between other fault why)

  pub turn_ended : IsInput i → RowsAddUp → (new : Reached) (finish : Finish) → IsLegGiven p i t.between.here t.between.count (counts_of saves) leg.stop finish → taken_of finish ≡ None
      → new.rows.items ≡ r.rows.items ++ rows_of finish → new.savepoint ≡ saved_of finish → IsOnWay p i all more (saves_in more) new
  turn_ended input add new finish gives none rows saved = step p i all leg more t.old new t.before (comes p i t.before.cut t.before.number leg saves r few_before t.between input add new finish gives none rows saved)

  pub turn_given_up : IsInput i → RowsAddUp → (new : Reached) (finish : Finish) (taken : ℕ) → IsLegGiven p i t.between.here t.between.count (counts_of saves) leg.stop finish → taken_of finish ≡ Some taken
      → new.rows.items ≡ r.rows.items ++ rows_of finish → new.savepoint ≡ saved_of finish → IsTurning p i all leg more (drop taken saves) new
  turn_given_up input add new finish taken gives some rows saved =
      record { old = t.old; before = t.before; between = goes_on p i t.before.cut t.before.number leg saves r few_before t.between input add new finish taken gives some rows saved }

  pub turn_takes : (finish : Finish) (taken : ℕ) → IsLegGiven p i t.between.here t.between.count (counts_of saves) leg.stop finish → taken_of finish ≡ Some taken → (0 < taken) × (taken ≤ length saves)
  turn_takes finish taken gives some = taken_some p i t.before.cut t.before.number leg saves r few_before t.between finish taken gives some

-- the scale of the leg that comes next
pub scale_of : (p : PlanData) (leg : LegSpec) (more : List LegSpec) → All (λ (leg : LegSpec). IsScale p leg.scale) (leg ∷ more) → IsScale p leg.scale
scale_of p leg more all = All-head (λ (leg : LegSpec). IsScale p leg.scale) leg more all
