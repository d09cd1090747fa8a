use Rattle.std.proofs.Common.{◌≡◌, ℤ, ◌+ℤ◌, ◌≤ℤ◌, ◌<ℤ◌, pos, true, List, Option, rules, arith, sym, ap, subst, ◌∙◌, FitsSigned, to_z, of_z}
use Rattle.indexmap.specs.IndexMap.{IndexMap}
use Rattle.pane_hashes.specs.declared.hashing.HashKeys.{HashKeys}
use Rattle.std.specs.Global.{Vec}
use Rattle.std.specs.Int.{w64, w128}
use Rattle.std.specs.List.{All}
use Rattle.std.specs.Option.{option_map}
use Rattle.std.proofs.lemmas.Int.{ints, to_z-of_z}
use Rattle.plan_model.specs.declared.spec.Pane.{Pane}
use Rattle.plan_model.specs.declared.spec.WindowSpec.{WindowSpec}
use Rattle.plan_model.specs.Aggregates.{Aggregated, merge}
use Rattle.plan_model.specs.PlanData.{IsWindow}
use Rattle.plan_model.specs.Windows.{is_start}
use Rattle.window_slices.specs.declared.key_slices.Slice.{Slice}
use Rattle.window_slices.specs.KeySlices.{IsCounted, IsSliceOf, acc_with, slices_of, slices_total}
use Rattle.window_slices.specs.Spans.{in_spans, keyed_at, span_start}
use Rattle.window_slices.proofs.SpanDrops.{IsInSpan, in_its_span}
use Rattle.window_slices.proofs.Wide.{widened}
use Rattle.window_slices.proofs.SpanTotals.{in_both, few_first, total_is, kinds_are}
use Rattle.window_slices.proofs.spans.pane_total.Goals as goal

end_fits : (s size x : ℤ) → s ≤ℤ x → x <ℤ (s +ℤ size) → pos 1 ≤ℤ size → size ≤ℤ pos 1099511627776 → FitsSigned w64 x → FitsSigned w128 (s +ℤ size)
end_fits s size x below above sized small fits = grind (arith, ints)

wide : (size : ℤ) → pos 1 ≤ℤ size → size ≤ℤ pos 1099511627776 → to_z w128 (of_z w128 (to_z w64 (of_z w64 size))) ≡ size
wide size sized small =
    let fits : FitsSigned w64 size = grind (arith, ints) in
    widened size fits

-- the number at which the second span begins, as it is held
abbrev held_end : ℤ → ℤ → ℤ
held_end s size = to_z w128 (of_z w128 s) +ℤ to_z w128 (of_z w128 (to_z w64 (of_z w64 size)))

module _ (w : WindowSpec) (x s : ℤ) (window : IsWindow w) (fits : FitsSigned w64 x) (s_fits : FitsSigned w128 s) (is : s ≡ span_start w (to_z w64 (of_z w64 x))) where
  first_is : to_z w128 (of_z w128 s) ≡ span_start w x
  first_is = to_z-of_z w128 s s_fits ∙ is ∙ ap (span_start w) (to_z-of_z w64 x fits)

  end_is : held_end s w.size ≡ span_start w x +ℤ w.size
  end_is = λ i. first_is i +ℤ wide w.size window.sized window.size_small i

  end_held : FitsSigned w128 (held_end s w.size)
  end_held =
      let own : IsInSpan w x = in_its_span w x window.sized in
      subst (FitsSigned w128) (sym end_is) (end_fits (span_start w x) w.size x own.before own.near window.sized window.size_small fits)

  second_is : to_z w128 (of_z w128 (held_end s w.size)) ≡ span_start w x +ℤ w.size
  second_is = to_z-of_z w128 (held_end s w.size) end_held ∙ end_is

-- the slices ys of the second span, and what a and b of both come to
record Halves (w : WindowSpec) (spans : List (ℤ × IndexMap ℤ (Vec Slice) HashKeys)) (q : Pane) (ys : List Slice) (a b : Option Aggregated) : Type 0 where
  pub those : ys ≡ slices_of (keyed_at spans (span_start w q.start +ℤ w.size)) q.key
  pub all : in_spans w spans q ≡ merge w.aggregates a b

halves : (w : WindowSpec) (spans : List (ℤ × IndexMap ℤ (Vec Slice) HashKeys)) (q : Pane) (s : ℤ) (xs ys : List Slice) → IsWindow w → FitsSigned w64 q.start → FitsSigned w64 q.key → FitsSigned w128 s
    → s ≡ span_start w (to_z w64 (of_z w64 q.start)) → is_start w (to_z w64 (of_z w64 q.start)) ≡ true
    → xs ≡ slices_of (keyed_at spans (to_z w128 (of_z w128 s))) (to_z w64 (of_z w64 q.key))
    → ys ≡ slices_of (keyed_at spans (to_z w128 (of_z w128 (held_end s w.size)))) (to_z w64 (of_z w64 q.key))
    → Halves w spans q ys (slices_total w (to_z w64 (of_z w64 q.start)) xs) (slices_total w (to_z w64 (of_z w64 q.start)) ys)
halves w spans q s xs ys window fits key_fits s_fits is started first second =
    let start = to_z-of_z w64 q.start fits in
    let key = to_z-of_z w64 q.key key_fits in
    let these : xs ≡ slices_of (keyed_at spans (span_start w q.start)) q.key = first ∙ (λ i. slices_of (keyed_at spans (first_is w q.start s window fits s_fits is i)) (key i)) in
    let those : ys ≡ slices_of (keyed_at spans (span_start w q.start +ℤ w.size)) q.key = second ∙ (λ i. slices_of (keyed_at spans (second_is w q.start s window fits s_fits is i)) (key i)) in
    record {
      those = those;
      all = in_both w spans q (ap (is_start w) (sym start) ∙ started) ∙ (λ i. merge w.aggregates (slices_total w (sym start i) (sym these i)) (slices_total w (sym start i) (sym those i)));
    }

pub overflow_add-next : goal.overflow_add-next
overflow_add-next c = end_held c.args.w.now c.args.pane.now.start c.span_of-span.result c.requires.window (search rules) (search rules) c.span_of-span.ensures

pub merge_slices-requires-clause-few : goal.merge_slices-requires-clause-few
merge_slices-requires-clause-few c =
    let w = c.args.w.now in
    let q = c.args.pane.now in
    let spans = c.args.spans.now.entries in
    let start = to_z-of_z w64 q.start (search rules) in
    let a = slices_total w (to_z w64 (of_z w64 q.start)) c.slices_in.result.now in
    let b = slices_total w q.start (slices_of (keyed_at spans (span_start w q.start +ℤ w.size)) q.key) in
    let first : a ≡ slices_total w q.start (slices_of (keyed_at spans (span_start w q.start)) q.key) =
    ap (slices_total w (to_z w64 (of_z w64 q.start))) c.slices_in.ensures
    ∙ (λ i. slices_total w (start i) (slices_of (keyed_at spans (first_is w q.start c.span_of-span.result c.requires.window (search rules) (search rules) c.span_of-span.ensures i)) (to_z-of_z w64 q.key (search rules) i))) in
    let started : is_start w q.start ≡ true = ap (is_start w) (sym start) ∙ sym c.is_start.ensures ∙ c.if-not-is_start.false in
    few_first w.aggregates a b (subst IsCounted (in_both w spans q started ∙ ap (λ t. merge w.aggregates t b) (sym first)) c.requires.few)

pub merge_slices-requires-2-clause-kinds : goal.merge_slices-requires-2-clause-kinds
merge_slices-requires-2-clause-kinds c =
    let w = c.args.w.now in
    let q = c.args.pane.now in
    let a = slices_total w (to_z w64 (of_z w64 q.start)) c.slices_in.result.now in
    let b = slices_total w (to_z w64 (of_z w64 q.start)) c.slices_in-2.result.now in
    let both : Halves w c.args.spans.now.entries q c.slices_in-2.result.now a b =
    halves w c.args.spans.now.entries q c.span_of-span.result c.slices_in.result.now c.slices_in-2.result.now c.requires.window (search rules) (search rules) (search rules)
    c.span_of-span.ensures (sym c.is_start.ensures ∙ c.if-not-is_start.false) c.slices_in.ensures c.slices_in-2.ensures in
    subst (All (IsSliceOf w)) (sym both.those) (c.requires.kinds (span_start w q.start +ℤ w.size) q.key)

pub merge_slices-requires-2-clause-own : goal.merge_slices-requires-2-clause-own
merge_slices-requires-2-clause-own c =
    let w = c.args.w.now in
    kinds_are w (slices_total w (to_z w64 (of_z w64 c.args.pane.now.start)) c.slices_in.result.now) c.merge_slices.new.total c.merge_slices.ensures

pub merge_slices-requires-2-clause-few : goal.merge_slices-requires-2-clause-few
merge_slices-requires-2-clause-few c =
    let w = c.args.w.now in
    let q = c.args.pane.now in
    let a = slices_total w (to_z w64 (of_z w64 q.start)) c.slices_in.result.now in
    let b = slices_total w (to_z w64 (of_z w64 q.start)) c.slices_in-2.result.now in
    let both : Halves w c.args.spans.now.entries q c.slices_in-2.result.now a b =
    halves w c.args.spans.now.entries q c.span_of-span.result c.slices_in.result.now c.slices_in-2.result.now c.requires.window (search rules) (search rules) (search rules)
    c.span_of-span.ensures (sym c.is_start.ensures ∙ c.if-not-is_start.false) c.slices_in.ensures c.slices_in-2.ensures in
    subst IsCounted (both.all ∙ ap (λ t. merge w.aggregates t b) (sym (total_is w a c.merge_slices.new.total c.merge_slices.ensures))) c.requires.few

pub returns : goal.returns
returns c =
    let w = c.args.w.now in
    let q = c.args.pane.now in
    let a = slices_total w (to_z w64 (of_z w64 q.start)) c.slices_in.result.now in
    let b = slices_total w (to_z w64 (of_z w64 q.start)) c.slices_in-2.result.now in
    let both : Halves w c.args.spans.now.entries q c.slices_in-2.result.now a b =
    halves w c.args.spans.now.entries q c.span_of-span.result c.slices_in.result.now c.slices_in-2.result.now c.requires.window (search rules) (search rules) (search rules)
    c.span_of-span.ensures (sym c.is_start.ensures ∙ c.if-not-is_start.false) c.slices_in.ensures c.slices_in-2.ensures in
    c.merge_slices-2.ensures ∙ ap (λ t. option_map (acc_with w) (merge w.aggregates t b)) (total_is w a c.merge_slices.new.total c.merge_slices.ensures) ∙ ap (option_map (acc_with w)) (sym both.all)
