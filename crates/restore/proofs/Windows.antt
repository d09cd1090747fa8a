-- The starts of windows as the code tests them, in 64 bits.
use Rattle.std.proofs.Common.{◌≡◌, ℕ, ◌^◌, ℤ, pos, negsuc, ◌+ℤ◌, ◌-ℤ◌, ◌≤ℤ◌, ◌<ℤ◌, true, FitsSigned, refl, eqb, arith, to_z, of_z, to_z-of_z, w64}
use Rattle.std.proofs.lemmas.Int.{ints}
use Rattle.std.specs.Prelude.{int_le, neg_ℤ}
use Rattle.std.specs.Int.{int_rem_euclid}
use Rattle.std.specs.Ordering.{int_eq}
use Rattle.plan_model.specs.declared.limits.TheConstants.{TIME_LIMIT, LONGEST_WINDOW}
use Rattle.plan_model.specs.declared.spec.WindowSpec.{WindowSpec}
use Rattle.plan_model.specs.PlanData.{IsWindow}
use Rattle.plan_model.specs.Windows.{is_start}
use Rattle.plan_model.specs.Rows.{is_due}
use Rattle.window_state.specs.Windows.{IsStart}
use Rattle.restore.specs.Requirements.{is_reached}

above : (w : WindowSpec) (s : ℤ) → w.size ≤ℤ LONGEST_WINDOW → is_reached w s ≡ true → neg_ℤ (TIME_LIMIT +ℤ LONGEST_WINDOW) <ℤ s
above w s b h = grind (arith, ints)

below : (w : WindowSpec) (s : ℤ) → is_reached w s ≡ true → s <ℤ TIME_LIMIT
below w s h = grind (arith, ints)

pub starts_within : (w : WindowSpec) (s : ℤ) → IsWindow w → is_reached w s ≡ true → IsStart s
starts_within w s p h = record { above = above w s p.size_small h; below = below w s h }

-- what lies between fits in 64 bits
fits : (z : ℤ) → neg_ℤ (pos (2 ^ 63)) ≤ℤ z → z <ℤ pos (2 ^ 63) → to_z w64 (of_z w64 z) ≡ z
fits z a b = omega (arith, ints)

zero_nat : (n : ℕ) → eqb n 0 ≡ int_eq (pos n) (pos 0)
zero_nat n = grind (arith, ints)

zero_test : (z d : ℤ) → eqb (of_z w64 (int_rem_euclid z d)) 0 ≡ int_eq (int_rem_euclid z d) (pos 0)
zero_test (pos n) d = zero_nat _
zero_test (negsuc n) d = zero_nat _

module _ (w : WindowSpec) (s : ℤ) (p : IsWindow w) (h : is_reached w s ≡ true) where
  low : neg_ℤ (TIME_LIMIT +ℤ LONGEST_WINDOW) <ℤ s
  low = above w s p.size_small h

  high : s <ℤ TIME_LIMIT
  high = below w s h

  plain : to_z w64 (of_z w64 s) ≡ s
  plain = let a = low in let b = high in fits s (omega (arith, ints)) (omega (arith, ints))

  pub start_test : (r : ℤ) → r ≡ int_rem_euclid (to_z w64 (of_z w64 (to_z w64 (of_z w64 s) -ℤ to_z w64 (of_z w64 w.offset)))) (to_z w64 (of_z w64 w.slide)) → eqb (of_z w64 r) 0 ≡ is_start w s
  start_test r e =
      let x = low in
      let y = high in
      let l = p.offset_above in
      let u = p.offset_below in
      let t = p.slide_small in
      let v = p.slides in
      let a = plain in
      let b : to_z w64 (of_z w64 w.offset) ≡ w.offset = fits w.offset (omega (arith, ints)) (omega (arith, ints)) in
      let d : to_z w64 (of_z w64 w.slide) ≡ w.slide = fits w.slide (omega (arith, ints)) (omega (arith, ints)) in
      let k : to_z w64 (of_z w64 (s -ℤ w.offset)) ≡ s -ℤ w.offset = fits (s -ℤ w.offset) (omega (arith, ints)) (omega (arith, ints)) in
      rw (e, a, b, d, k) (zero_test (s -ℤ w.offset) w.slide)

  pub due_test : (t : ℤ) → FitsSigned w64 t → int_le (to_z w64 (of_z w64 (to_z w64 (of_z w64 (to_z w64 (of_z w64 s) +ℤ to_z w64 (of_z w64 w.size))) -ℤ pos 1))) (to_z w64 (of_z w64 t)) ≡ is_due w t s
  due_test t f =
      let x = low in
      let y = high in
      let l = p.sized in
      let u = p.size_small in
      let a = plain in
      let b : to_z w64 (of_z w64 w.size) ≡ w.size = fits w.size (omega (arith, ints)) (omega (arith, ints)) in
      let d : to_z w64 (of_z w64 (s +ℤ w.size)) ≡ s +ℤ w.size = fits (s +ℤ w.size) (omega (arith, ints)) (omega (arith, ints)) in
      let e : to_z w64 (of_z w64 (s +ℤ w.size -ℤ pos 1)) ≡ s +ℤ w.size -ℤ pos 1 = fits (s +ℤ w.size -ℤ pos 1) (omega (arith, ints)) (omega (arith, ints)) in
      let g : to_z w64 (of_z w64 t) ≡ t = to_z-of_z {w = w64} {z = t} f in
      rw (a, b, d, e, g) refl
