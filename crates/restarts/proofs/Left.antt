-- What the snapshot of a cut has in a pane is of records before the cut, in a window that has not fired.
use Rattle.std.proofs.Common.{◌≡◌, ℕ, ◌≤◌, ℤ, Bool, true, false, List, [], ◌∷◌, length, Option, Some, None, refl, subst, arith, if◌then◌else◌}
use Rattle.std.specs.List.{All}
use Rattle.std.specs.Ordering.{int_eq}
use Rattle.std.proofs.lemmas.Bool.{and_parts}
use Rattle.std.proofs.lemmas.Int.{ints}
use Rattle.std.proofs.lemmas.List.Elements.{All-filter, All-head, filter_passes}
use Rattle.std.proofs.lemmas.List.Sums.{count_by-le-length, length-filter}
use Rattle.plain_data.specs.Record.{Record, at}
use Rattle.plan_model.specs.declared.limits.TheConstants.{MOST_RECORDS}
use Rattle.plan_model.specs.declared.spec.Aggregate.{Aggregate}
use Rattle.plan_model.specs.declared.spec.Pane.{Pane}
use Rattle.plan_model.specs.declared.spec.WindowSpec.{WindowSpec}
use Rattle.plan_model.specs.Aggregates.{Aggregated, aggregate_of}
use Rattle.plan_model.specs.PlanData.{PlanData}
use Rattle.plan_model.specs.Rows.{aggregate_at, is_due, records_of}
use Rattle.plan_model.specs.Windows.{IsTime, is_at, is_start, is_within, passes}
use Rattle.plan_model.proofs.Facts.{count_at, count_or}
use Rattle.stream_model.specs.InputData.{InputData, IsInput, BelongsTo}
use Rattle.stream_model.specs.Watermarks.{merged_watermark, records_before}
use Rattle.stream_model.specs.PlanRows.{passing, plan_aggregate, snapshot}
use Rattle.restore.specs.Requirements.{is_reached}
use Rattle.restarts.proofs.Records.{few_before, timely_before}
use Rattle.stream_model.proofs.Facts.{some_only}

else_some : {X : Type 0} (b : Bool) (o : Option X) (x : X) → (if b then None else o) ≡ Some x → (b ≡ false) × (o ≡ Some x)
else_some true o x e = absurd cc
else_some false o x e = (refl, e)

first_of : (P : Record → Type 0) (ks : List Aggregate) (rs : List Record) (a : Aggregated) → aggregate_of ks rs ≡ Some a → All P rs → (r : Record) × P r
first_of P ks [] a e h = absurd cc
first_of P ks (r ∷ rs) a e h = (r, All-head P r rs h)

-- a pane that holds something holds a record
pub holder : (P : Record → Type 0) (p : PlanData) (q : Pane) (rs : List Record) (a : Aggregated) → All P rs → aggregate_of p.window.aggregates (records_of p.window q (passing p rs)) ≡ Some a → (r : Record) × ((is_at p.window q r ≡ true) × P r)
holder P p q rs a h e =
    let test = is_at p.window q in
    first_of (λ r. (test r ≡ true) × P r) p.window.aggregates (records_of p.window q (passing p rs)) a e
    (λ k d l. (filter_passes test (passing p rs) k d l, All-filter test P (passing p rs) (All-filter (passes p.filters) P rs h) k d l))

-- a time in range reaches only such windows
reached : (w : WindowSpec) (s t : ℤ) → IsTime t → is_within w s t ≡ true → is_reached w s ≡ true
reached w s t h e = grind (arith, ints)

-- what is known of what stands in a pane of a snapshot
pub record IsLeft (p : PlanData) (i : InputData) (cut : List (List ℕ)) (q : Pane) (a : Aggregated) : Type 0 where
  pub early : is_due p.window (merged_watermark i.sources cut) q.start ≡ false
  pub start : is_start p.window q.start ≡ true
  pub reached : is_reached p.window q.start ≡ true
  pub counted : a.count ≤ length (records_before i.sources cut)
  pub few : a.count ≤ MOST_RECORDS
  pub made : aggregate_of p.window.aggregates (records_of p.window q (passing p (records_before i.sources cut))) ≡ Some a

counted_in : (w : WindowSpec) (rs : List Record) (q : Pane) (a : Aggregated) → aggregate_at w rs q ≡ Some a → a.count ≤ length rs
counted_in w rs q a e = subst (λ o. count_or o ≤ length rs) e (count_at w rs q)

pub left : (p : PlanData) (i : InputData) (cut : List (List ℕ)) (q : Pane) (a : Aggregated) → IsInput i → BelongsTo p i → snapshot p i.sources cut q ≡ Some a → IsLeft p i cut q a
left p i cut q a input belongs e =
    let w = p.window in
    let before = records_before i.sources cut in
    let early = else_some (is_due w (merged_watermark i.sources cut) q.start) (plan_aggregate p before q) a e in
    let starts = some_only (is_start w q.start) (aggregate_of w.aggregates (records_of w q (passing p before))) a early.1 in
    let one = holder (λ r. IsTime (at w.time r)) p q before a (timely_before p i cut input belongs) starts.1 in
    let inside = (and_parts (int_eq (at w.key one.0) q.key) (is_within w q.start (at w.time one.0)) one.1.0).1 in
    let of_passing : a.count ≤ length (passing p before) = counted_in w (passing p before) q a early.1 in
    let of_all : a.count ≤ length before = omega (arith, of_passing, length-filter (passes p.filters) before, count_by-le-length (passes p.filters) before) in
    record {
      early = early.0;
      start = starts.0;
      reached = reached w q.start (at w.time one.0) one.1.1 inside;
      counted = of_all;
      few = omega (arith, of_all, few_before i.sources cut, input.few);
      made = starts.1;
    }
