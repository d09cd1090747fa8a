-- A record brought in at a slice of its span: what the two spans of a window come to with it.
use Rattle.std.proofs.Common.{◌≡◌, ℤ, pos, ◌+ℤ◌, ◌≤ℤ◌, Bool, true, false, true≢false, cond, ◌&&◌, List, refl, sym, ap, subst, ◌∙◌, arith, Option, Some, inl, inr}
use Rattle.std.specs.Prelude.{not}
use Rattle.indexmap.specs.IndexMap.{IndexMap}
use Rattle.pane_hashes.specs.declared.hashing.HashKeys.{HashKeys}
use Rattle.std.specs.Global.{Vec}
use Rattle.std.specs.Map.{lookup}
use Rattle.std.specs.Ordering.{int_eq}
use Rattle.std.proofs.lemmas.Bool.{and_parts}
use Rattle.std.proofs.lemmas.Int.{ints}
use Rattle.plan_model.specs.declared.spec.Aggregate.{Aggregate}
use Rattle.plan_model.specs.declared.spec.Pane.{Pane}
use Rattle.plan_model.specs.declared.spec.WindowSpec.{WindowSpec}
use Rattle.plan_model.specs.Aggregates.{Aggregated, merge}
use Rattle.plan_model.specs.Windows.{is_start, is_within, is_window_of}
use Rattle.plan_model.proofs.Facts.{merge_assoc}
use Rattle.window_slices.specs.declared.key_slices.Slice.{Slice}
use Rattle.window_slices.specs.KeySlices.{AreSlices, slices_of, sliced}
use Rattle.window_slices.specs.Spans.{AreInSpans, span_start, keyed_in, keyed_at, in_spans}
use Rattle.window_slices.proofs.SpanFits.{in_either}
use Rattle.window_slices.proofs.SliceAdds.{merge_first, same_key}

-- ---- the span of a number in a window

-- a number in a window lies in the span of its start or in the next, and in one of them only
one_span : (w : WindowSpec) (s b : ℤ) → pos 1 ≤ℤ w.size → is_within w s b ≡ true
    → int_eq (span_start w b) (span_start w s +ℤ w.size) ≡ not (int_eq (span_start w b) (span_start w s))
one_span w s b sized within = elim (in_either w s b sized within) [
  | inl same ↦ first (span_start w b) (span_start w s) w.size sized same
  | inr next ↦ second (span_start w b) (span_start w s) w.size sized next
]
  where
    second : (x y n : ℤ) → pos 1 ≤ℤ n → x ≡ y +ℤ n → int_eq x (y +ℤ n) ≡ not (int_eq x y)
    second x y n h e = grind (arith, ints)

    first : (x y n : ℤ) → pos 1 ≤ℤ n → x ≡ y → int_eq x (y +ℤ n) ≡ not (int_eq x y)
    first x y n h e = grind (arith, ints)

-- what comes to one of the two parts comes to both
once : (ks : List Aggregate) (t e f : Bool) (x y one : Option Aggregated) → (t ≡ true → f ≡ not e)
    → merge ks (cond (e && t) (merge ks x one) x) (cond (f && t) (merge ks y one) y) ≡ cond t (merge ks (merge ks x y) one) (merge ks x y)
once ks true true true x y one other = absurd (true≢false (other refl))
once ks true true false x y one other = merge_first ks x one y
once ks true false true x y one other = sym (merge_assoc ks x y one)
once ks true false false x y one other = absurd (true≢false (sym (other refl)))
once ks false true true x y one other = refl
once ks false true false x y one other = refl
once ks false false true x y one other = refl
once ks false false false x y one other = refl

-- ---- the slices of a span that are others now

abbrev Spanned : Type 0
Spanned = List (ℤ × IndexMap ℤ (Vec Slice) HashKeys)

-- new has m at the span, and what old has at the others
abbrev HasAt : Spanned → Spanned → ℤ → IndexMap ℤ (Vec Slice) HashKeys → Type 0
HasAt old new span m = (b : ℤ) → keyed_at new b ≡ cond (int_eq span b) m.entries (keyed_at old b)

pub has_at : (old new : Spanned) (span held : ℤ) (m : IndexMap ℤ (Vec Slice) HashKeys) → held ≡ span
    → ((b : ℤ) → lookup (int_eq b) new ≡ cond (int_eq held b) (Some m) (lookup (int_eq b) old)) → HasAt old new span m
has_at old new span held m same is b = ap keyed_in (is b ∙ ap (λ k. cond (int_eq k b) (Some m) (lookup (int_eq b) old)) same) ∙ within (int_eq span b)
  where
    within : (x : Bool) → keyed_in (cond x (Some m) (lookup (int_eq b) old)) ≡ cond x m.entries (keyed_at old b)
    within true = refl
    within false = refl

-- the same with the entries as an insertion holds them
pub has_held : (old held new : Spanned) (span held_span : ℤ) (m : IndexMap ℤ (Vec Slice) HashKeys) → held ≡ old → held_span ≡ span
    → ((b : ℤ) → lookup (int_eq b) new ≡ cond (int_eq held_span b) (Some m) (lookup (int_eq b) held)) → HasAt old new span m
has_held old held new span held_span m entries same is =
    has_at old new span held_span m same (λ b. is b ∙ ap (λ l. cond (int_eq held_span b) (Some m) (lookup (int_eq b) l)) entries)

-- where more is in the slices of the span, more is in the windows of the time that have the key
pub in_spans_more : (w : WindowSpec) (old new : Spanned) (span key start : ℤ) (was : List (ℤ × Vec Slice)) (m : IndexMap ℤ (Vec Slice) HashKeys) (one : Option Aggregated)
    → pos 1 ≤ℤ w.size → span ≡ span_start w start → was ≡ keyed_at old span → HasAt old new span m
    → ((q : Pane) → sliced w m.entries q ≡ cond (int_eq key q.key && is_window_of w start q.start) (merge w.aggregates (sliced w was q) one) (sliced w was q))
    → (q : Pane) → in_spans w new q ≡ cond (int_eq key q.key && is_window_of w start q.start) (merge w.aggregates (in_spans w old q) one) (in_spans w old q)
in_spans_more w old new span key start was m one sized is there has more q =
    (λ i. merge w.aggregates (at_span (span_start w q.start) i) (at_span (span_start w q.start +ℤ w.size) i))
    ∙ once w.aggregates test (int_eq span (span_start w q.start)) (int_eq span (span_start w q.start +ℤ w.size)) _ _ one other
  where
    test : Bool
    test = int_eq key q.key && is_window_of w start q.start

    at_span : (b : ℤ) → sliced w (keyed_at new b) q ≡ cond (int_eq span b && test) (merge w.aggregates (sliced w (keyed_at old b) q) one) (sliced w (keyed_at old b) q)
    at_span b = ap (λ l. sliced w l q) (has b) ∙ by_span (int_eq span b) refl
      where
        by_span : (x : Bool) → int_eq span b ≡ x
            → sliced w (cond x m.entries (keyed_at old b)) q ≡ cond (x && test) (merge w.aggregates (sliced w (keyed_at old b) q) one) (sliced w (keyed_at old b) q)
        by_span false elsewhere = refl
        by_span true same =
            let here : was ≡ keyed_at old b = there ∙ ap (keyed_at old) (same_key span b same) in
            more q ∙ ap (λ l. cond test (merge w.aggregates (sliced w l q) one) (sliced w l q)) here

    other : test ≡ true → int_eq span (span_start w q.start +ℤ w.size) ≡ not (int_eq span (span_start w q.start))
    other is_in =
        let window = (and_parts (int_eq key q.key) (is_window_of w start q.start) is_in).1 in
        let within : is_within w q.start start ≡ true = (and_parts (is_start w q.start) (is_within w q.start start) window).1 in
        subst (λ s. int_eq s (span_start w q.start +ℤ w.size) ≡ not (int_eq s (span_start w q.start))) (sym is) (one_span w q.start start sized within)

pub in_spans_kinds : (w : WindowSpec) (old new : Spanned) (span : ℤ) (m : IndexMap ℤ (Vec Slice) HashKeys) → HasAt old new span m → AreSlices w m.entries → AreInSpans w old → AreInSpans w new
in_spans_kinds w old new span m has kinds are b = subst (AreSlices w) (sym (has b)) (by_span (int_eq span b))
  where
    by_span : (x : Bool) → AreSlices w (cond x m.entries (keyed_at old b))
    by_span true = kinds
    by_span false = are b

-- where each key's slices in the span are those that it had, they are in all
pub in_spans_same : (old new : Spanned) (span : ℤ) (was : List (ℤ × Vec Slice)) (m : IndexMap ℤ (Vec Slice) HashKeys) → was ≡ keyed_at old span → HasAt old new span m
    → ((k : ℤ) → slices_of m.entries k ≡ slices_of was k) → (b k : ℤ) → slices_of (keyed_at new b) k ≡ slices_of (keyed_at old b) k
in_spans_same old new span was m there has are b k = ap (λ l. slices_of l k) (has b) ∙ by_span (int_eq span b) refl
  where
    by_span : (x : Bool) → int_eq span b ≡ x → slices_of (cond x m.entries (keyed_at old b)) k ≡ slices_of (keyed_at old b) k
    by_span false elsewhere = refl
    by_span true same = are k ∙ ap (λ l. slices_of l k) (there ∙ ap (keyed_at old) (same_key span b same))
