-- What the code computes fits its 64 bits.
use Rattle.std.proofs.Common.{◌≡◌, ◌^◌, ℤ, pos, neg_ℤ, ◌+ℤ◌, ◌-ℤ◌, ◌*ℤ◌, ◌<ℤ◌, ◌≤ℤ◌, w64, to_z, of_z, ap, ◌∙◌, arith}
use Rattle.std.specs.Int.{int_rem_euclid, int_min, int_max}
use Rattle.std.proofs.lemmas.Int.{ints, clamps}
use Rattle.plan_model.specs.declared.limits.TheConstants.{TIME_LIMIT, LONGEST_WINDOW}
use Rattle.plan_model.specs.declared.spec.WindowSpec.{WindowSpec}
use Rattle.plan_model.specs.PlanData.{IsWindow}
use Rattle.plan_model.specs.Windows.{IsTime}
use Rattle.window_slices.specs.Slices.{last_start_by, last_end_by, slice_start, slice_end, IsSliceStart}

whole : (z : ℤ) → neg_ℤ (pos (2 ^ 63)) ≤ℤ z → z <ℤ pos (2 ^ 63) → to_z w64 (of_z w64 z) ≡ z
whole z h k = omega (arith, ints)

-- the window's numbers
pub slide_whole : (w : WindowSpec) → IsWindow w → to_z w64 (of_z w64 w.slide) ≡ w.slide
slide_whole w iw =
    let low = iw.slides in
    let high = iw.slide_small in
    whole w.slide (omega (arith, ints, low)) (omega (arith, ints, high))

offset_whole : (w : WindowSpec) → IsWindow w → to_z w64 (of_z w64 w.offset) ≡ w.offset
offset_whole w iw =
    let low = iw.offset_above in
    let high = iw.offset_below in
    let most = iw.slide_small in
    whole w.offset (omega (arith, ints, low, most)) (omega (arith, ints, high, most))

module _ (w : WindowSpec) (t : ℤ) (iw : IsWindow w) (above : (neg_ℤ TIME_LIMIT -ℤ pos 2 *ℤ LONGEST_WINDOW) ≤ℤ t) (below : t <ℤ TIME_LIMIT) where
  number_whole : to_z w64 (of_z w64 t) ≡ t
  number_whole = whole t (omega (arith, ints, above)) (omega (arith, ints, below))

  less_whole : to_z w64 (of_z w64 (t -ℤ w.offset)) ≡ t -ℤ w.offset
  less_whole =
      let low = iw.offset_above in
      let high = iw.offset_below in
      let most = iw.slide_small in
      whole (t -ℤ w.offset) (omega (arith, ints, above, high, most)) (omega (arith, ints, below, low, most))

  rest_is : (r : ℤ) → r ≡ int_rem_euclid (to_z w64 (of_z w64 (to_z w64 (of_z w64 t) -ℤ to_z w64 (of_z w64 w.offset)))) (to_z w64 (of_z w64 w.slide)) → r ≡ int_rem_euclid (t -ℤ w.offset) w.slide
  rest_is r e =
      let inner : to_z w64 (of_z w64 t) -ℤ to_z w64 (of_z w64 w.offset) ≡ t -ℤ w.offset = λ i. number_whole i -ℤ offset_whole w iw i in
      let whole_inner : to_z w64 (of_z w64 (to_z w64 (of_z w64 t) -ℤ to_z w64 (of_z w64 w.offset))) ≡ t -ℤ w.offset = ap (λ (z : ℤ). to_z w64 (of_z w64 z)) inner ∙ less_whole in
      let slide = slide_whole w iw in
      e ∙ (λ i. int_rem_euclid (whole_inner i) (slide i))

  -- the last start is the number less its remainder
  pub last_start_is : (r : ℤ) → r ≡ int_rem_euclid (to_z w64 (of_z w64 (to_z w64 (of_z w64 t) -ℤ to_z w64 (of_z w64 w.offset)))) (to_z w64 (of_z w64 w.slide)) → pos 0 ≤ℤ r → r <ℤ w.slide
      → to_z w64 (of_z w64 (to_z w64 (of_z w64 t) -ℤ to_z w64 (of_z w64 r))) ≡ last_start_by w t
  last_start_is r e low high =
      let most = iw.slide_small in
      let same : r ≡ int_rem_euclid (t -ℤ w.offset) w.slide = rest_is r e in
      let fits : to_z w64 (of_z w64 r) ≡ r = whole r (omega (arith, ints, low)) (omega (arith, ints, high, most)) in
      let inner : to_z w64 (of_z w64 t) -ℤ to_z w64 (of_z w64 r) ≡ t -ℤ r = λ i. number_whole i -ℤ fits i in
      ap (λ (z : ℤ). to_z w64 (of_z w64 z)) inner ∙ whole (t -ℤ r) (omega (arith, ints, above, high, most)) (omega (arith, ints, below, low)) ∙ ap (λ (z : ℤ). t -ℤ z) same

-- the last end is the last start a size before, and a size more
module _ (w : WindowSpec) (t : ℤ) (iw : IsWindow w) (above : (neg_ℤ TIME_LIMIT -ℤ LONGEST_WINDOW) ≤ℤ t) (below : t <ℤ TIME_LIMIT) where
  before : to_z w64 (of_z w64 (to_z w64 (of_z w64 t) -ℤ to_z w64 (of_z w64 w.size))) ≡ t -ℤ w.size
  before =
      let low = iw.sized in
      let high = iw.size_small in
      omega (arith, ints, above, below, low, high)

  pub last_end_is : (r : ℤ) → r ≡ last_start_by w (to_z w64 (of_z w64 (to_z w64 (of_z w64 t) -ℤ to_z w64 (of_z w64 w.size))))
      → (to_z w64 (of_z w64 (to_z w64 (of_z w64 t) -ℤ to_z w64 (of_z w64 w.size))) -ℤ LONGEST_WINDOW) ≤ℤ r → r ≤ℤ to_z w64 (of_z w64 (to_z w64 (of_z w64 t) -ℤ to_z w64 (of_z w64 w.size)))
      → to_z w64 (of_z w64 (to_z w64 (of_z w64 r) +ℤ to_z w64 (of_z w64 w.size))) ≡ last_end_by w t
  last_end_is r e low high =
      let some = iw.sized in
      let most = iw.size_small in
      let at = before in
      let least : ((t -ℤ w.size) -ℤ LONGEST_WINDOW) ≤ℤ r = omega (arith, ints, low, at) in
      let greatest : r ≤ℤ (t -ℤ w.size) = omega (arith, ints, high, at) in
      let sum : to_z w64 (of_z w64 (to_z w64 (of_z w64 r) +ℤ to_z w64 (of_z w64 w.size))) ≡ r +ℤ w.size = omega (arith, ints, above, below, some, most, least, greatest) in
      sum ∙ ap (λ (z : ℤ). z +ℤ w.size) (e ∙ ap (last_start_by w) at)

-- a number is a slide behind the earlier of two
module _ (w : WindowSpec) (s : ℤ) (iw : IsWindow w) (is : IsSliceStart s) where
  number : to_z w64 (of_z w64 s) ≡ s
  number =
      let low = is.above in
      let high = is.below in
      whole s (omega (arith, ints, low)) (omega (arith, ints, high))

  pub slice_end_is : (m a b : ℤ) → a ≡ last_start_by w (to_z w64 (of_z w64 s)) → b ≡ last_end_by w (to_z w64 (of_z w64 s)) → m ≡ int_min (to_z w64 (of_z w64 a)) (to_z w64 (of_z w64 b))
      → (to_z w64 (of_z w64 s) -ℤ LONGEST_WINDOW) ≤ℤ a → a ≤ℤ to_z w64 (of_z w64 s) → (to_z w64 (of_z w64 s) -ℤ LONGEST_WINDOW) ≤ℤ b → b ≤ℤ to_z w64 (of_z w64 s)
      → to_z w64 (of_z w64 (to_z w64 (of_z w64 m) +ℤ to_z w64 (of_z w64 w.slide))) ≡ slice_end w s
  slice_end_is m a b ea eb em alow ahigh blow bhigh =
      let low = is.above in
      let high = is.below in
      let some = iw.slides in
      let most = iw.slide_small in
      let at = number in
      let fa : to_z w64 (of_z w64 a) ≡ a = whole a (omega (arith, ints, low, alow, at)) (omega (arith, ints, high, ahigh, at)) in
      let fb : to_z w64 (of_z w64 b) ≡ b = whole b (omega (arith, ints, low, blow, at)) (omega (arith, ints, high, bhigh, at)) in
      let least : m ≡ int_min a b = em ∙ (λ i. int_min (fa i) (fb i)) in
      let mlow : (s -ℤ LONGEST_WINDOW) ≤ℤ m = omega (arith, ints, clamps, least, alow, blow, at) in
      let mhigh : m ≤ℤ s = omega (arith, ints, clamps, least, ahigh, at) in
      let sum : to_z w64 (of_z w64 (to_z w64 (of_z w64 m) +ℤ to_z w64 (of_z w64 w.slide))) ≡ m +ℤ w.slide = omega (arith, ints, low, high, some, most, mlow, mhigh) in
      let parts : int_min a b ≡ int_min (last_start_by w s) (last_end_by w s) =
      let first = ea ∙ ap (last_start_by w) at in
      let second = eb ∙ ap (last_end_by w) at in
      λ i. int_min (first i) (second i) in
      sum ∙ ap (λ (z : ℤ). z +ℤ w.slide) (least ∙ parts)

-- a time is in range
time_above : (t : ℤ) → IsTime t → neg_ℤ TIME_LIMIT ≤ℤ t
time_above t h = grind (arith, ints)

time_below : (t : ℤ) → IsTime t → t <ℤ TIME_LIMIT
time_below t h = grind (arith, ints)

-- the slice of a time starts at the later of two
module _ (t m a b : ℤ) (is : IsTime t) (most : m ≡ int_max (to_z w64 (of_z w64 a)) (to_z w64 (of_z w64 b))) (alow : (to_z w64 (of_z w64 t) -ℤ LONGEST_WINDOW) ≤ℤ a) (ahigh : a ≤ℤ to_z w64 (of_z w64 t))
    (blow : (to_z w64 (of_z w64 t) -ℤ LONGEST_WINDOW) ≤ℤ b) (bhigh : b ≤ℤ to_z w64 (of_z w64 t)) where
  time : to_z w64 (of_z w64 t) ≡ t
  time =
      let low = time_above t is in
      let high = time_below t is in
      whole t (omega (arith, ints, low)) (omega (arith, ints, high))

  later : m ≡ int_max a b
  later =
      let low = time_above t is in
      let high = time_below t is in
      let at = time in
      let fa : to_z w64 (of_z w64 a) ≡ a = whole a (omega (arith, ints, low, alow, at)) (omega (arith, ints, high, ahigh, at)) in
      let fb : to_z w64 (of_z w64 b) ≡ b = whole b (omega (arith, ints, low, blow, at)) (omega (arith, ints, high, bhigh, at)) in
      most ∙ (λ i. int_max (fa i) (fb i))

  near : (t -ℤ LONGEST_WINDOW) ≤ℤ m
  near =
      let at = time in
      let is_later = later in
      omega (arith, ints, clamps, is_later, alow, at)

  reached : m ≤ℤ t
  reached =
      let at = time in
      let is_later = later in
      omega (arith, ints, clamps, is_later, ahigh, bhigh, at)

  latest : to_z w64 (of_z w64 m) ≡ m
  latest =
      let low = time_above t is in
      let high = time_below t is in
      let least = near in
      let greatest = reached in
      whole m (omega (arith, ints, low, least)) (omega (arith, ints, high, greatest))

  pub slice_start_near : IsSliceStart (to_z w64 (of_z w64 m))
  slice_start_near =
      let low = time_above t is in
      let high = time_below t is in
      let least = near in
      let greatest = reached in
      let at = latest in
      record { above = omega (arith, ints, at, low, least); below = omega (arith, ints, at, high, greatest) }

  pub slice_start_is : (w : WindowSpec) → a ≡ last_start_by w (to_z w64 (of_z w64 t)) → b ≡ last_end_by w (to_z w64 (of_z w64 t)) → to_z w64 (of_z w64 m) ≡ slice_start w t
  slice_start_is w ea eb =
      let first = ea ∙ ap (last_start_by w) time in
      let second = eb ∙ ap (last_end_by w) time in
      latest ∙ later ∙ (λ i. int_max (first i) (second i))
