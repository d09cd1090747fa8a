-- The slices of a window lie in two spans: what those of one of them come to is a part of what stands in the pane.
use Rattle.std.proofs.Common.{◌≡◌, ℤ, pos, ◌+ℤ◌, ◌-ℤ◌, ◌<ℤ◌, ◌≤ℤ◌, ◌≤◌, Bool, true, false, List, refl, sym, ap, ◌∙◌, ◌⊎◌, inl, inr, arith, Option, Some, None, is_some}
use Rattle.indexmap.specs.IndexMap.{IndexMap}
use Rattle.pane_hashes.specs.declared.hashing.HashKeys.{HashKeys}
use Rattle.std.specs.Global.{Vec}
use Rattle.std.specs.Int.{int_rem_euclid}
use Rattle.std.specs.Int.RustNames.{int_lt}
use Rattle.std.proofs.lemmas.Int.{ints}
use Rattle.plan_model.specs.declared.spec.Aggregate.{Aggregate}
use Rattle.plan_model.specs.declared.spec.Pane.{Pane}
use Rattle.plan_model.specs.declared.spec.WindowSpec.{WindowSpec}
use Rattle.plan_model.specs.Aggregates.{Aggregated, merge}
use Rattle.plan_model.specs.Windows.{is_start, is_within}
use Rattle.plan_model.proofs.Facts.{count_or, count_merge}
use Rattle.window_slices.specs.Slices.{last_start_by}
use Rattle.window_slices.proofs.Starts.{last_start, next_start}
use Rattle.window_slices.specs.declared.key_slices.Slice.{Slice}
use Rattle.window_slices.specs.KeySlices.{sliced}
use Rattle.window_slices.specs.Spans.{in_spans, keyed_at, span_start}

-- ---- in which spans the slices of a window lie

-- spans begin where windows as long as they would start
abbrev spanned : WindowSpec → WindowSpec
spanned w = record w { slide = w.size }

own_start : (w : WindowSpec) (c : ℤ) → is_start w c ≡ true → last_start_by w c ≡ c
own_start w c is =
    let none : int_rem_euclid (c -ℤ w.offset) w.slide ≡ pos 0 = grind (arith, ints, is) in
    omega (arith, ints, none)

-- starts are a slide apart
apart : (w : WindowSpec) (a c : ℤ) → pos 1 ≤ℤ w.slide → is_start w a ≡ true → is_start w c ≡ true → a <ℤ c → (a +ℤ w.slide) ≤ℤ c
apart w a c slides is later less =
    let next = next_start w a c slides later less in
    let own = own_start w a is in
    omega (arith, ints, next, own)

sides : (a b : ℤ) → (a <ℤ b) ⊎ (b ≤ℤ a)
sides a b = by_case (int_lt a b) refl
  where
    by_case : (x : Bool) → int_lt a b ≡ x → (a <ℤ b) ⊎ (b ≤ℤ a)
    by_case true is = inl (grind (arith, ints, is))
    by_case false is = inr (grind (arith, ints, is))

same_start : (w : WindowSpec) (a c : ℤ) → pos 1 ≤ℤ w.slide → is_start w a ≡ true → is_start w c ≡ true → a <ℤ (c +ℤ w.slide) → c <ℤ (a +ℤ w.slide) → a ≡ c
same_start w a c slides is also before behind = elim (sides a c) [
  | inl less ↦ let far = apart w a c slides is also less in absurd (omega (arith, ints, far, behind))
  | inr most ↦ elim (sides c a) [
    | inl less ↦ let far = apart w c a slides also is less in absurd (omega (arith, ints, far, before))
    | inr least ↦ grind (arith, ints, most, least)
  ]
]

record Within (s b size : ℤ) : Type 0 where
  above : s ≤ℤ b
  below : b <ℤ (s +ℤ size)

within_is : (w : WindowSpec) (s b : ℤ) → is_within w s b ≡ true → Within s b w.size
within_is w s b h = record { above = grind (arith, ints, h); below = grind (arith, ints, h) }

-- a number of a window lies in the span in which the window begins, or in the next
pub in_either : (w : WindowSpec) (s b : ℤ) → pos 1 ≤ℤ w.size → is_within w s b ≡ true → (span_start w b ≡ span_start w s) ⊎ (span_start w b ≡ span_start w s +ℤ w.size)
in_either w s b sized within =
    let v = spanned w in
    let h = within_is w s b within in
    let first = last_start v s sized in
    let own = last_start v b sized in
    let before = last_start v (span_start w b -ℤ pos 1) sized in
    let step = next_start v (span_start w b -ℤ pos 1) (span_start w b) sized own.start (omega (arith, ints)) in
    elim (sides (span_start w s) (span_start w b)) [
      | inl later ↦ inr (
          let same = same_start v (last_start_by v (span_start w b -ℤ pos 1)) (span_start w s) sized before.start first.start
          (omega (arith, ints, step, h.above, h.below, own.before, first.near)) (omega (arith, ints, before.near, later)) in
          omega (arith, ints, same, step, before.near))
      | inr here ↦ inl (same_start v (span_start w b) (span_start w s) sized own.start first.start (omega (arith, ints, here, sized)) (omega (arith, ints, first.before, h.above, own.near)))
    ]

-- ---- what the slices of one span come to

either_some : (ks : List Aggregate) (x y : Option Aggregated) → is_some x ≡ true → is_some (merge ks x y) ≡ true
either_some ks None y some = absurd cc
either_some ks (Some a) None some = refl
either_some ks (Some a) (Some b) some = refl

other_some : (ks : List Aggregate) (x y : Option Aggregated) → is_some y ≡ true → is_some (merge ks x y) ≡ true
other_some ks None y some = some
other_some ks (Some a) None some = refl
other_some ks (Some a) (Some b) some = refl

module _ (w : WindowSpec) (spans : List (ℤ × IndexMap ℤ (Vec Slice) HashKeys)) (q : Pane) (b : ℤ) (sized : pos 1 ≤ℤ w.size) (within : is_within w q.start b ≡ true) where
  abbrev half : ℤ → Option Aggregated
  half x = sliced w (keyed_at spans x) q

  pub some_in_span : is_some (half (span_start w b)) ≡ true → is_some (in_spans w spans q) ≡ true
  some_in_span some = elim (in_either w q.start b sized within) [
    | inl same ↦ either_some w.aggregates (half (span_start w q.start)) (half (span_start w q.start +ℤ w.size)) (ap (λ x. is_some (half x)) (sym same) ∙ some)
    | inr next ↦ other_some w.aggregates (half (span_start w q.start)) (half (span_start w q.start +ℤ w.size)) (ap (λ x. is_some (half x)) (sym next) ∙ some)
  ]

  pub count_in_span : count_or (half (span_start w b)) ≤ count_or (in_spans w spans q)
  count_in_span =
      let all = count_merge w.aggregates (half (span_start w q.start)) (half (span_start w q.start +ℤ w.size)) in
      elim (in_either w q.start b sized within) [
        | inl same ↦ let is = ap (λ x. count_or (half x)) same in omega (arith, all, is)
        | inr next ↦ let is = ap (λ x. count_or (half x)) next in omega (arith, all, is)
      ]
