-- What the slices of the two spans of a window come to together.
use Rattle.std.proofs.Common.{◌≡◌, ℤ, ◌+ℤ◌, true, cond, List, map, rules, refl, sym, ap, subst, arith, Option, Some, None}
use Rattle.std.specs.Global.{Vec}
use Rattle.indexmap.specs.IndexMap.{IndexMap}
use Rattle.pane_hashes.specs.declared.hashing.HashKeys.{HashKeys}
use Rattle.std.specs.Option.{option_map, IfSome}
use Rattle.plan_model.specs.declared.spec.Aggregate.{Aggregate}
use Rattle.plan_model.specs.declared.spec.WindowSpec.{WindowSpec}
use Rattle.plan_model.specs.declared.spec.Pane.{Pane}
use Rattle.plan_model.specs.Aggregates.{Aggregated, merge}
use Rattle.plan_model.specs.Windows.{is_start}
use Rattle.plan_model.proofs.Facts.{count_or, count_merge}
use Rattle.aggregates.specs.Kinds.{AccData, kind_of}
use Rattle.window_slices.specs.declared.key_slices.Slice.{Slice}
use Rattle.window_slices.specs.KeySlices.{IsCounted, acc_with, slices_of, slices_total, total_of}
use Rattle.window_slices.specs.Spans.{in_spans, keyed_at, span_start}
use Rattle.window_slices.proofs.SliceTotals.{at_most}

-- ---- the two halves

-- what the slices of a pane in one span come to
abbrev pub in_span : WindowSpec → List (ℤ × IndexMap ℤ (Vec Slice) HashKeys) → Pane → ℤ → Option Aggregated
in_span w spans q b = slices_total w q.start (slices_of (keyed_at spans b) q.key)

pub in_both : (w : WindowSpec) (spans : List (ℤ × IndexMap ℤ (Vec Slice) HashKeys)) (q : Pane) → is_start w q.start ≡ true
    → in_spans w spans q ≡ merge w.aggregates (in_span w spans q (span_start w q.start)) (in_span w spans q (span_start w q.start +ℤ w.size))
in_both w spans q is =
    ap (λ t. merge w.aggregates (cond t (in_span w spans q (span_start w q.start)) None) (cond t (in_span w spans q (span_start w q.start +ℤ w.size)) None)) is

-- ---- how many records they are of

pub few_first : (ks : List Aggregate) (a b : Option Aggregated) → IsCounted (merge ks a b) → IsCounted a
few_first ks a b few = λ v is. omega (arith, at_most (merge ks a b) few, count_merge ks a b, ap count_or is)

-- ---- their accumulators

pub total_is : (w : WindowSpec) (a : Option Aggregated) (o : Option AccData) → o ≡ option_map (acc_with w) a → total_of o ≡ a
total_is w None o is = ap total_of is
total_is w (Some v) o is = ap total_of is

pub kinds_are : (w : WindowSpec) (a : Option Aggregated) (o : Option AccData) → o ≡ option_map (acc_with w) a → IfSome o (λ x. x.kinds ≡ map kind_of w.aggregates)
kinds_are w a o is = subst (λ (p : Option AccData). IfSome p (λ x. x.kinds ≡ map kind_of w.aggregates)) (sym is) (own w a) where
  own : (w : WindowSpec) (a : Option Aggregated) → IfSome (option_map (acc_with w) a) (λ x. x.kinds ≡ map kind_of w.aggregates)
  own w None = search rules
  own w (Some v) = refl
