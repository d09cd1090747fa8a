-- How what stands in a pane grows with the records.
use Rattle.std.proofs.Common.{◌≡◌, Bool, true, false, cond, ◌&&◌, List, [], ◌∷◌, ◌++◌, refl, sym, ap, ◌∙◌, Option, Some, None, if◌then◌else◌}
use Rattle.std.specs.Ordering.{int_eq}
use Rattle.std.proofs.lemmas.List.Elements.{filter-append}
use Rattle.plain_data.specs.Record.{Record, at}
use Rattle.plan_model.specs.declared.spec.Aggregate.{Aggregate}
use Rattle.plan_model.specs.declared.spec.WindowSpec.{WindowSpec}
use Rattle.plan_model.specs.declared.spec.Pane.{Pane}
use Rattle.plan_model.specs.Bag.{IsSameBag}
use Rattle.plan_model.specs.Windows.{is_start, is_within, is_window_of, is_at}
use Rattle.plan_model.specs.Aggregates.{Aggregated, aggregate_of, merge}
use Rattle.plan_model.specs.Rows.{records_of, aggregate_at}
use Rattle.plan_model.proofs.Aggs.{aggregate_of-append}
use Rattle.plan_model.proofs.Bags.{aggregate_of-same, IsSameBag-filter}

if_merge : (ks : List Aggregate) (b : Bool) (x y : Option Aggregated) → (if b then merge ks x y else None) ≡ merge ks (if b then x else None) (if b then y else None)
if_merge ks true x y = refl
if_merge ks false x y = refl

-- two parts of the records
pub aggregate_at-append : (w : WindowSpec) (xs ys : List Record) (q : Pane)
    → aggregate_at w (xs ++ ys) q ≡ merge w.aggregates (aggregate_at w xs q) (aggregate_at w ys q)
aggregate_at-append w xs ys q =
    let ks = w.aggregates in
    ap (λ o. if is_start w q.start then o else None)
    (ap (aggregate_of ks) (filter-append (is_at w q) xs ys) ∙ aggregate_of-append ks (records_of w q xs) (records_of w q ys))
    ∙ if_merge ks (is_start w q.start) (aggregate_of ks (records_of w q xs)) (aggregate_of ks (records_of w q ys))

-- the order of the records
pub aggregate_at-same : (w : WindowSpec) (xs ys : List Record) (q : Pane) → IsSameBag xs ys → aggregate_at w xs q ≡ aggregate_at w ys q
aggregate_at-same w xs ys q h =
    ap (λ o. if is_start w q.start then o else None)
    (aggregate_of-same w.aggregates (records_of w q xs) (records_of w q ys) (IsSameBag-filter (is_at w q) xs ys h))

pub merge_None : (ks : List Aggregate) (x : Option Aggregated) → merge ks x None ≡ x
merge_None ks None = refl
merge_None ks (Some x) = refl

-- the pane of one record, by its window and its key
one_pane : (s k i : Bool) (ks : List Aggregate) (r : Record) → (if s then aggregate_of ks (cond (k && i) (r ∷ []) []) else None) ≡ (if (s && i) && k then aggregate_of ks (r ∷ []) else None)
one_pane false k i ks r = refl
one_pane true false false ks r = refl
one_pane true false true ks r = refl
one_pane true true false ks r = refl
one_pane true true true ks r = refl

merge_if : (ks : List Aggregate) (b : Bool) (x y : Option Aggregated) → merge ks x (if b then y else None) ≡ (if b then merge ks x y else x)
merge_if ks true x y = refl
merge_if ks false x y = merge_None ks x

-- what one record comes to in a pane
pub aggregate_at-one : (w : WindowSpec) (r : Record) (q : Pane)
    → aggregate_at w (r ∷ []) q ≡ (if is_window_of w (at w.time r) q.start && int_eq (at w.key r) q.key then aggregate_of w.aggregates (r ∷ []) else None)
aggregate_at-one w r q = one_pane (is_start w q.start) (int_eq (at w.key r) q.key) (is_within w q.start (at w.time r)) w.aggregates r

-- the same, merged into what stands there
pub merge-one : (w : WindowSpec) (r : Record) (q : Pane) (x : Option Aggregated)
    → (if is_window_of w (at w.time r) q.start && int_eq (at w.key r) q.key then merge w.aggregates x (aggregate_of w.aggregates (r ∷ [])) else x)
    ≡ merge w.aggregates x (aggregate_at w (r ∷ []) q)
merge-one w r q x =
    sym (ap (merge w.aggregates x) (aggregate_at-one w r q) ∙ merge_if w.aggregates (is_window_of w (at w.time r) q.start && int_eq (at w.key r) q.key) x (aggregate_of w.aggregates (r ∷ [])))
