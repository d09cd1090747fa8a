-- The last start of a window that is at most a time, where another start is known.
use Rattle.std.proofs.Common.{◌≡◌, ◌∙◌, ℕ, ◌+◌, ◌%◌, ◌<◌, ℤ, pos, ◌+ℤ◌, ◌-ℤ◌, ◌≤ℤ◌, ◌<ℤ◌, true, sym, ap, arith, FitsSigned, to_z, of_z}
use Rattle.std.specs.Int.{w64, int_rem_euclid, int_max}
use Rattle.std.specs.Int.RustNames.{int_lt, int_le}
use Rattle.std.proofs.lemmas.Int.{ints, clamps, by_lt_z, to_z-of_z}
use Rattle.plan_model.specs.declared.spec.WindowSpec.{WindowSpec}
use Rattle.plan_model.specs.PlanData.{IsWindow}
use Rattle.plan_model.specs.Windows.{is_start}
use Rattle.window_slices.specs.Slices.{last_start_by, last_end_by, slice_start}
use Rattle.window_slices.proofs.Fits.{slide_whole}
use Rattle.plan_model.proofs.Facts.{rem-add, natural_above, pos_same}
use Rattle.window_slices.proofs.Starts.{eq_from, eq_to, last_start, next_start, no_start_between}

-- a start is the last one that is at most itself
itself : (w : WindowSpec) (s : ℤ) → is_start w s ≡ true → last_start_by w s ≡ s
itself w s is = grind (arith, ints, is)

-- of the starts within a slide before a time there is one
pub last_is : (w : WindowSpec) (t s : ℤ) → pos 1 ≤ℤ w.slide → is_start w s ≡ true → s ≤ℤ t → t <ℤ (s +ℤ w.slide) → s ≡ last_start_by w t
last_is w t s slides is before near =
    let last = last_start_by w t in
    let reached = last_start w t slides in
    let last_before = reached.before in
    let by = no_start_between w t s slides is before in
    by_lt_z s last
    (λ lt.
    let next = next_start w s last slides reached.start lt in
    let same = itself w s is in
    absurd (omega (arith, ints, next, same, near, last_before)))
    (λ le. omega (arith, ints, by, le))

-- the same as the code finds it
pub last_by : (w : WindowSpec) (t s back : ℤ) → IsWindow w → is_start w s ≡ true → FitsSigned w64 t → FitsSigned w64 s → FitsSigned w64 back
    → back ≡ (to_z w64 (of_z w64 t) -ℤ to_z w64 (of_z w64 s)) → int_le (pos 0) (to_z w64 (of_z w64 back)) ≡ true → int_lt (to_z w64 (of_z w64 back)) (to_z w64 (of_z w64 w.slide)) ≡ true
    → s ≡ last_start_by w t
last_by w t s back range is time_fits start_fits fits difference low high =
    let held : to_z w64 (of_z w64 back) ≡ back = to_z-of_z w64 back fits in
    let apart : back ≡ (t -ℤ s) = difference ∙ (λ i. to_z-of_z w64 t time_fits i -ℤ to_z-of_z w64 s start_fits i) in
    let least : int_le (pos 0) back ≡ true = ap (int_le (pos 0)) (sym held) ∙ low in
    let most : int_lt back w.slide ≡ true = (λ i. int_lt (sym held i) (sym (slide_whole w range) i)) ∙ high in
    let some : pos 0 ≤ℤ back = grind (arith, ints, least) in
    let less : back <ℤ w.slide = grind (arith, ints, most) in
    last_is w t s range.slides is (omega (arith, ints, some, apart)) (omega (arith, ints, less, apart))

-- ---- where the slide divides the size, slices start where windows do

moved : (c offset size : ℤ) → (c +ℤ size) -ℤ offset ≡ (c -ℤ offset) +ℤ size
moved c offset size = omega (arith, ints)

-- a size behind a start there is one
ends_at_start : (w : WindowSpec) (c : ℤ) → pos 1 ≤ℤ w.slide → pos 1 ≤ℤ w.size → int_rem_euclid w.size w.slide ≡ pos 0 → is_start w c ≡ true → is_start w (c +ℤ w.size) ≡ true
ends_at_start w c slides sized whole is =
    let n : (n : ℕ) × (0 < n) × (w.slide ≡ pos n) = natural_above w.slide (omega (arith, ints, slides)) in
    let m : (m : ℕ) × (0 < m) × (w.size ≡ pos m) = natural_above w.size (omega (arith, ints, sized)) in
    let slide : w.slide ≡ pos n.0 = n.2 in
    let size : w.size ≡ pos m.0 = m.2 in
    let found = rem-add (c -ℤ w.offset) m.0 n.0 n.1 in
    let rest : m.0 % n.0 ≡ 0 = pos_same _ _ ((λ i. int_rem_euclid (sym size i) (sym slide i)) ∙ whole) in
    let zero : found.0 ≡ 0 = pos_same _ _ (sym found.2 ∙ ap (λ (d : ℤ). int_rem_euclid (c -ℤ w.offset) d) (sym slide) ∙ eq_from _ _ is) in
    let same : found.0 + m.0 ≡ m.0 = omega (arith, zero) in
    let none : (found.0 + m.0) % n.0 ≡ 0 = ap (λ (r : ℕ). r % n.0) same ∙ rest in
    eq_to _ _ (ap (λ (z : ℤ). int_rem_euclid z w.slide) (moved c w.offset w.size) ∙ (λ i. int_rem_euclid ((c -ℤ w.offset) +ℤ size i) (slide i)) ∙ found.3 ∙ ap pos none)

-- so the last end that is at most a number is the last start
last_end : (w : WindowSpec) (t : ℤ) → pos 1 ≤ℤ w.slide → pos 1 ≤ℤ w.size → int_rem_euclid w.size w.slide ≡ pos 0 → last_end_by w t ≡ last_start_by w t
last_end w t slides sized whole =
    let reached = last_start w (t -ℤ w.size) slides in
    let before = reached.before in
    let near = reached.near in
    last_is w t (last_end_by w t) slides (ends_at_start w (last_start_by w (t -ℤ w.size)) slides sized whole reached.start) (omega (arith, ints, before)) (omega (arith, ints, near))

pub whole_slides : (w : WindowSpec) (t : ℤ) → pos 1 ≤ℤ w.slide → pos 1 ≤ℤ w.size → int_rem_euclid w.size w.slide ≡ pos 0 → slice_start w t ≡ last_start_by w t
whole_slides w t slides sized whole = greater_same (last_start_by w t) (last_end_by w t) (last_end w t slides sized whole)
  where
    greater_same : (a b : ℤ) → b ≡ a → int_max a b ≡ a
    greater_same a b same = omega (arith, ints, clamps, same)
