-- A record brought in on both sides of a number: at the windows that begin before it, and at those that begin later.
use Rattle.std.proofs.Common.{◌≡◌, ℕ, ℤ, pos, ◌+ℤ◌, ◌-ℤ◌, ◌≤◌, ◌≤ℤ◌, ◌<ℤ◌, ◌^◌, Bool, true, false, cond, ◌&&◌, List, [], ◌∷◌, refl, sym, ap, subst, ◌∙◌, arith, Option, FitsSigned, to_z, of_z}
use Rattle.std.specs.Prelude.{int_le, int_lt}
use Rattle.std.specs.Int.{w64, w128, int_max, int_rem_euclid}
use Rattle.std.specs.Ordering.{int_eq}
use Rattle.std.proofs.lemmas.Int.{ints, clamps, by_lt_z, to_z-of_z}
use Rattle.plain_data.specs.Record.{Record, at}
use Rattle.plan_model.specs.declared.spec.Aggregate.{Aggregate}
use Rattle.plan_model.specs.declared.spec.Pane.{Pane}
use Rattle.plan_model.specs.declared.spec.WindowSpec.{WindowSpec}
use Rattle.plan_model.specs.PlanData.{IsWindow}
use Rattle.plan_model.specs.Windows.{IsTime, is_start, is_window_of}
use Rattle.plan_model.specs.Aggregates.{Aggregated, aggregate_of, merge}
use Rattle.plan_model.specs.Rows.{aggregate_at}
use Rattle.plan_model.proofs.Facts.{and_false, merge-one}
use Rattle.window_slices.specs.Slices.{last_start_by, last_end_by}
use Rattle.window_slices.proofs.Facts.{last_start, next_start, whole_slides}
use Rattle.window_state.proofs.Slides.{fits_window, start_is}

-- a record that does not reach a window changes nothing there
pub unreached : (w : WindowSpec) (r : Record) (q : Pane) (x : Option Aggregated) → is_window_of w (at w.time r) q.start ≡ false → merge w.aggregates x (aggregate_at w (r ∷ []) q) ≡ x
unreached w r q x not = sym (merge-one w r q x) ∙ ap (λ b. cond (b && int_eq (at w.key r) q.key) (merge w.aggregates x (aggregate_of w.aggregates (r ∷ []))) x) not

greatest : (a b : ℤ) → int_max a b ≡ a → a ≤ℤ b → a ≡ b
greatest a b h k = grind (arith, ints, clamps, h, k)

itself : (w : WindowSpec) (s : ℤ) → is_start w s ≡ true → last_start_by w s ≡ s
itself w s is = grind (arith, ints, is)

-- a size behind a start there is one, where the slide divides the size
ends_at_start : (w : WindowSpec) (s : ℤ) → IsWindow w → int_rem_euclid w.size w.slide ≡ pos 0 → is_start w s ≡ true → is_start w (s +ℤ w.size) ≡ true
ends_at_start w s range whole is =
    let end = s +ℤ w.size in
    let reached = last_start w end range.slides in
    let back : (end -ℤ w.size) ≡ s = omega (arith, ints) in
    let ends : last_end_by w end ≡ end = ap (λ z. last_start_by w z +ℤ w.size) back ∙ ap (λ z. z +ℤ w.size) (itself w s is) in
    let later : int_max (last_start_by w end) end ≡ last_start_by w end = ap (int_max (last_start_by w end)) (sym ends) ∙ whole_slides w end range.slides range.sized whole in
    subst (λ z. is_start w z ≡ true) (greatest (last_start_by w end) end later reached.before) reached.start

-- how far before the last window of a time its oldest begins, where the slide divides the size
abbrev pub oldest : WindowSpec → ℤ → ℕ → ℤ
oldest w t first = (t -ℤ pos first) -ℤ (w.size -ℤ w.slide)

ended : (w : WindowSpec) (s t f : ℤ) (first : ℕ) → IsWindow w → int_rem_euclid w.size w.slide ≡ pos 0 → int_rem_euclid (t -ℤ w.offset) w.slide ≡ pos first
    → int_lt (oldest w t first) f ≡ false → int_lt s f ≡ true → is_start w s ≡ true → int_lt t (s +ℤ w.size) ≡ false
ended w s t f first range whole rest late before is = by_lt_z t (s +ℤ w.size)
    (λ lt.
    let next = next_start w t (s +ℤ w.size) range.slides (ends_at_start w s range whole is) lt in
    let last : last_start_by w t ≡ t -ℤ pos first = ap (λ (z : ℤ). t -ℤ z) rest in
    absurd (grind (arith, ints, next, last, late, before)))
    (λ le. grind (arith, ints, le))

by_start : (b : Bool) (w : WindowSpec) (s t : ℤ) → is_start w s ≡ b → (is_start w s ≡ true → int_lt t (s +ℤ w.size) ≡ false) → is_window_of w t s ≡ false
by_start false w s t e none = ap (λ b. b && (int_le s t && int_lt t (s +ℤ w.size))) e
by_start true w s t e none = (λ i. is_start w s && (int_le s t && none e i)) ∙ ap (λ b. is_start w s && b) (and_false (int_le s t)) ∙ and_false (is_start w s)

-- where the oldest window of a time does not begin before f, none does
pub none_before : (w : WindowSpec) (s t f : ℤ) (first : ℕ) → IsWindow w → int_rem_euclid w.size w.slide ≡ pos 0 → int_rem_euclid (t -ℤ w.offset) w.slide ≡ pos first
    → int_lt (oldest w t first) f ≡ false → int_lt s f ≡ true → is_window_of w t s ≡ false
none_before w s t f first range whole rest late before = by_start (is_start w s) w s t refl (ended w s t f first range whole rest late before)

-- first at those that begin later, and then at those that begin before
pub both_sides : (b : Bool) (ks : List Aggregate) (old mid new one : Option Aggregated) → mid ≡ cond b old (merge ks old one) → new ≡ cond b (merge ks mid one) mid → new ≡ merge ks old one
both_sides true ks old mid new one is more = more ∙ ap (λ o. merge ks o one) is
both_sides false ks old mid new one is more = more ∙ is

pub one_side : (b : Bool) (ks : List Aggregate) (old mid one : Option Aggregated) → mid ≡ cond b old (merge ks old one) → (b ≡ true → merge ks old one ≡ old) → mid ≡ merge ks old one
one_side true ks old mid one is none = is ∙ sym (none refl)
one_side false ks old mid one is none = is

-- ---- the oldest start as the code computes it

fits_oldest : (t z s : ℤ) (b : ℕ) → IsTime t → b ≤ 2 ^ 40 → pos 1 ≤ℤ z → z ≤ℤ pos (2 ^ 40) → pos 1 ≤ℤ s → s ≤ℤ pos (2 ^ 40) → FitsSigned w64 ((t -ℤ pos b) -ℤ (z -ℤ s))
fits_oldest t z s b time back h k m n = grind (arith, ints)

fits_wide : (t z s : ℤ) (b : ℕ) → IsTime t → b ≤ 2 ^ 40 → pos 1 ≤ℤ z → z ≤ℤ pos (2 ^ 40) → pos 1 ≤ℤ s → s ≤ℤ pos (2 ^ 40) → FitsSigned w128 ((t -ℤ pos b) -ℤ (z -ℤ s))
fits_wide t z s b time back h k m n = grind (arith, ints)

below : (t z s f : ℤ) (b : ℕ) → IsTime t → b ≤ 2 ^ 40 → pos 1 ≤ℤ z → s ≤ℤ pos (2 ^ 40) → int_lt ((t -ℤ pos b) -ℤ (z -ℤ s)) f ≡ false → f <ℤ pos (2 ^ 64)
below t z s f b time back h n late = grind (arith, ints)

fits_reach : (z s : ℤ) → pos 1 ≤ℤ z → z ≤ℤ pos (2 ^ 40) → pos 1 ≤ℤ s → s ≤ℤ pos (2 ^ 40) → FitsSigned w64 (z -ℤ s)
fits_reach z s h k m n = grind (arith, ints)

module _ (v w : WindowSpec) (t x : ℤ) (first : ℕ) (same : w ≡ v) (is : IsWindow v) (time : IsTime t) (small : first ≤ 2 ^ 40) (fits : FitsSigned w64 x) (e : x ≡ t) where
  held_size : to_z w64 (of_z w64 w.size) ≡ v.size
  held_size = ap (λ (x : WindowSpec). to_z w64 (of_z w64 x.size)) same ∙ to_z-of_z w64 v.size (fits_window v.size is.sized is.size_small)

  held_slide : to_z w64 (of_z w64 w.slide) ≡ v.slide
  held_slide = ap (λ (x : WindowSpec). to_z w64 (of_z w64 x.slide)) same ∙ to_z-of_z w64 v.slide (fits_window v.slide is.slides is.slide_small)

  reach : to_z w64 (of_z w64 (to_z w64 (of_z w64 w.size) -ℤ to_z w64 (of_z w64 w.slide))) ≡ v.size -ℤ v.slide
  reach = (λ i. to_z w64 (of_z w64 (held_size i -ℤ held_slide i))) ∙ to_z-of_z w64 (v.size -ℤ v.slide) (fits_reach v.size v.slide is.sized is.size_small is.slides is.slide_small)

  held : (to_z w64 (of_z w64 (to_z w64 (of_z w64 x) -ℤ to_z w64 first)) -ℤ to_z w64 (of_z w64 (to_z w64 (of_z w64 w.size) -ℤ to_z w64 (of_z w64 w.slide)))) ≡ oldest v t first
  held = λ i. start_is t x first fits e time small i -ℤ reach i

  oldest_word : FitsSigned w64 (oldest v t first)
  oldest_word = fits_oldest t v.size v.slide first time small is.sized is.size_small is.slides is.slide_small

  pub oldest_fits : FitsSigned w64 (to_z w64 (of_z w64 (to_z w64 (of_z w64 x) -ℤ to_z w64 first)) -ℤ to_z w64 (of_z w64 (to_z w64 (of_z w64 w.size) -ℤ to_z w64 (of_z w64 w.slide))))
  oldest_fits = subst (FitsSigned w64) (sym held) oldest_word

  -- the oldest start beside a number, as the code compares them
  pub oldest_side : (f : ℤ) (b : Bool) → FitsSigned w128 f
      → int_lt (to_z w128 (of_z w128 (to_z w64 (of_z w64 (to_z w64 (of_z w64 (to_z w64 (of_z w64 x) -ℤ to_z w64 first)) -ℤ to_z w64 (of_z w64 (to_z w64 (of_z w64 w.size) -ℤ to_z w64 (of_z w64 w.slide)))))))) (to_z w128 (of_z w128 f)) ≡ b
      → int_lt (oldest v t first) f ≡ b
  oldest_side f b hf h =
      sym (λ i. int_lt
      ((ap (λ z. to_z w128 (of_z w128 (to_z w64 (of_z w64 z)))) held
      ∙ ap (λ z. to_z w128 (of_z w128 z)) (to_z-of_z w64 (oldest v t first) oldest_word)
      ∙ to_z-of_z w128 (oldest v t first) (fits_wide t v.size v.slide first time small is.sized is.size_small is.slides is.slide_small)) i)
      (to_z-of_z w128 f hf i)) ∙ h

  -- where it does not begin before f, windows may be made of slices from f on
  pub late_below : (f : ℤ) → int_lt (oldest v t first) f ≡ false → f <ℤ pos (2 ^ 64)
  late_below f late = below t v.size v.slide f first time small is.sized is.slide_small late
