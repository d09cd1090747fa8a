-- Spans that end at a time or before: no window from then on looks at them.
use Rattle.std.proofs.Common.{◌≡◌, ℤ, pos, ◌+ℤ◌, ◌≤ℤ◌, ◌<ℤ◌, Bool, true, false, cond, List, slice_get, [], ◌∷◌, refl, sym, ap, subst, ◌∙◌, arith, Option, Some, None}
use Rattle.std.specs.Prelude.{IfNone, IfSome}
use Rattle.std.specs.Global.{Vec}
use Rattle.indexmap.specs.IndexMap.{IndexMap}
use Rattle.pane_hashes.specs.declared.hashing.HashKeys.{HashKeys}
use Rattle.std.specs.BTreeMap.Range.{IsLeBy, IsLtBy}
use Rattle.std.specs.List.{All}
use Rattle.std.specs.Map.{keys_of, lookup}
use Rattle.std.specs.Ordering.{int_cmp, int_eq, is_gt}
use Rattle.std.proofs.lemmas.Int.{ints}
use Rattle.std.proofs.lemmas.List.Elements.{All-nil, All-cons, All-head, All-tail}
use Rattle.plan_model.specs.declared.spec.WindowSpec.{WindowSpec}
use Rattle.plan_model.specs.declared.spec.Pane.{Pane}
use Rattle.plan_model.specs.Aggregates.{merge}
use Rattle.window_slices.proofs.Facts.{Reached, last_start}
use Rattle.window_slices.specs.declared.key_slices.Slice.{Slice}
use Rattle.window_slices.specs.KeySlices.{AreSlices, IsSliceOf, sliced}
use Rattle.window_slices.specs.Spans.{AreInSpans, in_spans, keyed_at, keyed_in, span_start}

pub record IsInSpan (w : WindowSpec) (x : ℤ) : Type 0 where
  pub before : span_start w x ≤ℤ x
  pub near : x <ℤ (span_start w x +ℤ w.size)

-- a number lies in its span
pub in_its_span : (w : WindowSpec) (x : ℤ) → pos 1 ≤ℤ w.size → IsInSpan w x
in_its_span w x sized =
    let found : Reached (record w { slide = w.size }) x = last_start (record w { slide = w.size }) x sized in
    record { before = found.before; near = found.near }

not_after : (a x b : ℤ) → IsLtBy int_cmp a x → int_eq b a ≡ true → int_eq b x ≡ false
not_after a x b less here = grind (arith, ints)

module _ (e : ℤ × IndexMap ℤ (Vec Slice) HashKeys) (old new : List (ℤ × IndexMap ℤ (Vec Slice) HashKeys)) (is : old ≡ e ∷ new) where
  at_others : (k : ℤ) → int_eq k e.0 ≡ false → keyed_at old k ≡ keyed_at new k
  at_others k other = ap (λ l. keyed_at l k) is ∙ ap (λ t. keyed_in (cond t (Some e.1) (lookup (int_eq k) new))) other

  not_at : (k : ℤ) → e.0 <ℤ k → int_eq k e.0 ≡ false
  not_at k less = grind (arith, ints)

  -- windows from then on look at later spans
  pub later_same : (w : WindowSpec) (from : ℤ) (q : Pane) → pos 1 ≤ℤ w.size → (e.0 +ℤ w.size) ≤ℤ from → from ≤ℤ q.start → in_spans w new q ≡ in_spans w old q
  later_same w from q sized ends later =
      let own = in_its_span w q.start sized in
      let start = span_start w q.start in
      let first : keyed_at old start ≡ keyed_at new start = at_others start (not_at start (omega (arith, ints, own.near, ends, later))) in
      let second : keyed_at old (start +ℤ w.size) ≡ keyed_at new (start +ℤ w.size) = at_others (start +ℤ w.size) (not_at (start +ℤ w.size) (omega (arith, ints, own.near, ends, later, sized))) in
      (λ i. merge w.aggregates (sliced w (sym first i) q) (sliced w (sym second i) q))

  -- behind the first there is none that begins with it
  none_after : (es : List (ℤ × IndexMap ℤ (Vec Slice) HashKeys)) → All (IsLtBy int_cmp e.0) (keys_of es) → (b : ℤ) → int_eq b e.0 ≡ true → lookup (int_eq b) es ≡ None
  none_after [] above b here = refl
  none_after (x ∷ es) above b here =
      let other : int_eq b x.0 ≡ false = not_after e.0 x.0 b (All-head (IsLtBy int_cmp e.0) x.0 (keys_of es) above) here in
      ap (λ t. cond t (Some x.1) (lookup (int_eq b) es)) other ∙ none_after es (All-tail (IsLtBy int_cmp e.0) x.0 (keys_of es) above) b here

  pub kinds_left : (w : WindowSpec) → All (IsLtBy int_cmp e.0) (keys_of new) → AreInSpans w old → AreInSpans w new
  kinds_left w above kinds = λ b. by_case b (int_eq b e.0) refl
    where
      by_case : (b : ℤ) (t : Bool) → int_eq b e.0 ≡ t → AreSlices w (keyed_at new b)
      by_case b true here = subst (λ (o : Option (IndexMap ℤ (Vec Slice) HashKeys)). AreSlices w (keyed_in o)) (sym (none_after new above b here)) (λ k. All-nil (IsSliceOf w))
      by_case b false other = subst (AreSlices w) (at_others b other) (kinds b)

not_less : (a b from size : ℤ) → is_gt (int_cmp a b) ≡ false → from <ℤ (a +ℤ size) → from <ℤ (b +ℤ size)
not_less a b from size least ends = grind (arith, ints)

-- where the first ends later, each does
pub all_later : (w : WindowSpec) (from a : ℤ) (es : List (ℤ × IndexMap ℤ (Vec Slice) HashKeys)) → All (IsLeBy int_cmp a) (keys_of es) → from <ℤ (a +ℤ w.size) → All (λ e. from <ℤ (e.0 +ℤ w.size)) es
all_later w from a [] least ends = All-nil (λ (e : ℤ × IndexMap ℤ (Vec Slice) HashKeys). from <ℤ (e.0 +ℤ w.size))
all_later w from a (e ∷ es) least ends =
    All-cons (λ (e : ℤ × IndexMap ℤ (Vec Slice) HashKeys). from <ℤ (e.0 +ℤ w.size)) e es (not_less a e.0 from w.size (All-head (IsLeBy int_cmp a) e.0 (keys_of es) least) ends)
    (all_later w from a es (All-tail (IsLeBy int_cmp a) e.0 (keys_of es) least) ends)

-- what a state of the spans keeps of the one before it
pub record IsLeft (w : WindowSpec) (from : ℤ) (old new : List (ℤ × IndexMap ℤ (Vec Slice) HashKeys)) : Type 0 where
  pub later : (q : Pane) → from ≤ℤ q.start → in_spans w new q ≡ in_spans w old q
  pub kinds : AreInSpans w old → AreInSpans w new

same_first : (p : ℤ × IndexMap ℤ (Vec Slice) HashKeys) (new : List (ℤ × IndexMap ℤ (Vec Slice) HashKeys)) (a : ℤ) (v : IndexMap ℤ (Vec Slice) HashKeys) → slice_get (p ∷ new) 0 ≡ Some (a, v) → p.0 ≡ a
same_first p new a v is = let same : p ≡ (a, v) = cc in ap (λ (t : ℤ × IndexMap ℤ (Vec Slice) HashKeys). t.0) same

-- the first of them is popped, which ends at the time or before
pub popped_left : (w : WindowSpec) (from : ℤ) (r : Option (ℤ × IndexMap ℤ (Vec Slice) HashKeys)) (old new : List (ℤ × IndexMap ℤ (Vec Slice) HashKeys)) (a : ℤ) (v : IndexMap ℤ (Vec Slice) HashKeys)
    → pos 1 ≤ℤ w.size → (a +ℤ w.size) ≤ℤ from → slice_get old 0 ≡ Some (a, v) → IfSome r (λ p. old ≡ p ∷ new) → IfSome r (λ p. All (IsLtBy int_cmp p.0) (keys_of new))
    → IfNone r (new ≡ old) → IsLeft w from old new
popped_left w from None old new a v sized ends first is above same =
    subst (IsLeft w from old) (sym same) (record { later = λ q late. refl; kinds = λ kinds. kinds })
popped_left w from (Some p) old new a v sized ends first is above same =
    let start : p.0 ≡ a = same_first p new a v (ap (λ l. slice_get l 0) (sym is) ∙ first) in
    let own_ends : (p.0 +ℤ w.size) ≤ℤ from = subst (λ (b : ℤ). (b +ℤ w.size) ≤ℤ from) (sym start) ends in
    record { later = λ q late. later_same p old new is w from q sized own_ends late; kinds = kinds_left p old new is w above }
