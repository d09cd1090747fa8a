-- The windows of a time are those whose start is the offset plus a whole number of slides.
use Rattle.std.proofs.Common.{◌≡◌, ℕ, suc, ℤ, pos, negsuc, ◌+ℤ◌, ◌-ℤ◌, ◌*ℤ◌, ◌+◌, ◌-◌, ◌*◌, ◌/◌, ◌%◌, ◌<◌, ◌<ℤ◌, ◌≤ℤ◌, true, refl, sym, ap, ◌∙◌, inl, inr, arith}
use Rattle.std.specs.Int.{int_rem_euclid}
use Rattle.std.specs.Int.RustNames.{int_le, int_lt}
use Rattle.std.specs.Ordering.{int_eq}
use Rattle.std.proofs.lemmas.Int.{ints, int_rem_euclid_is}
use Rattle.std.proofs.lemmas.Bool.{cases_lt}
use Rattle.std.proofs.Math.Nat.{div-add-mod, zero-mod, mul-mod_left}
use Rattle.std.proofs.Math.IntN.{pos-*ℤ-pos, negsuc-*ℤ-pos}
use Rattle.plan_model.specs.declared.spec.WindowSpec.{WindowSpec}
use Rattle.plan_model.specs.Windows.{is_start, is_within, IsStartOf}
use Rattle.plan_model.specs.Laws.{WindowsAreThose}
use Rattle.plan_model.proofs.Starts.{lifted, pos_same}
use Rattle.byte_fields.proofs.Exact.{both, and_true}

-- the difference of two multiples is a multiple
less_some : (q j n : ℕ) → (k : ℤ) × (k *ℤ pos n ≡ pos (q * n) -ℤ pos (j * n))
less_some q j n = elim (cases_lt q j) [
  | inl below ↦
      let d : ℕ = (j - q) - 1 in
      let split : suc d + q ≡ j = omega arith in
      let product : suc d * n + q * n ≡ j * n = omega (arith, ap (λ x. x * n) split) in
      (negsuc d, negsuc-*ℤ-pos d n ∙ omega (arith, ints, product))
  | inr above ↦
      let d : ℕ = q - j in
      let split : d + j ≡ q = omega arith in
      let product : d * n + j * n ≡ q * n = omega (arith, ap (λ x. x * n) split) in
      (pos d, pos-*ℤ-pos d n ∙ omega (arith, ints, product))
]

alone : (z a b : ℤ) → z +ℤ a ≡ b → z ≡ b -ℤ a
alone z a b h = omega (arith, ints)

alone_right : (s a b : ℤ) → s ≡ a +ℤ b → s -ℤ a ≡ b
alone_right s a b h = omega (arith, ints)

back_again : (s a b : ℤ) → s -ℤ a ≡ b → s ≡ a +ℤ b
back_again s a b h = omega (arith, ints)

-- a number with no remainder is a multiple
has_multiple : (z : ℤ) (n : ℕ) → 0 < n → int_rem_euclid z (pos n) ≡ pos 0 → (k : ℤ) × (z ≡ k *ℤ pos n)
has_multiple z n h none =
    let up : (j : ℕ) × (m : ℕ) × (z +ℤ pos (j * n) ≡ pos m) = lifted z n h in
    let j = up.0 in
    let m = up.1 in
    let e : z +ℤ pos (j * n) ≡ pos m = up.2 in
    let rest : m % n ≡ 0 = pos_same _ _ (sym (int_rem_euclid_is z (pos n) n j m h refl e) ∙ none) in
    let parts : n * (m / n) + m % n ≡ m = div-add-mod m n in
    let whole : (m / n) * n ≡ m = omega (arith, rest, parts) in
    let found : (k : ℤ) × (k *ℤ pos n ≡ pos ((m / n) * n) -ℤ pos (j * n)) = less_some (m / n) j n in
    let same : found.0 *ℤ pos n ≡ pos m -ℤ pos (j * n) = found.1 ∙ ap (λ x. pos x -ℤ pos (j * n)) whole in
    (found.0, alone z (pos (j * n)) (pos m) e ∙ sym same)

-- a multiple has no remainder
no_remainder : (k : ℤ) (n : ℕ) → 0 < n → int_rem_euclid (k *ℤ pos n) (pos n) ≡ pos 0
no_remainder (pos a) n h =
    let e : pos a *ℤ pos n +ℤ pos (0 * n) ≡ pos (a * n) = omega (arith, ints, pos-*ℤ-pos a n) in
    int_rem_euclid_is (pos a *ℤ pos n) (pos n) n 0 (a * n) h refl e ∙ ap pos (mul-mod_left a n)
no_remainder (negsuc a) n h =
    let e : negsuc a *ℤ pos n +ℤ pos (suc a * n) ≡ pos 0 = omega (arith, ints, negsuc-*ℤ-pos a n) in
    int_rem_euclid_is (negsuc a *ℤ pos n) (pos n) n (suc a) 0 h refl e ∙ ap pos (zero-mod n)

pub natural_above : (z : ℤ) → pos 0 <ℤ z → (n : ℕ) × (0 < n) × (z ≡ pos n)
natural_above (pos n) h = (n, omega (arith, ints), refl)
natural_above (negsuc n) h = absurd (omega (arith, ints))

eq_from_test : (a b : ℤ) → int_eq a b ≡ true → a ≡ b
eq_from_test a b h = grind (arith, ints)

test_from_eq : (a b : ℤ) → a ≡ b → int_eq a b ≡ true
test_from_eq a b h = grind (arith, ints)

is_start-from : (w : WindowSpec) (s : ℤ) → pos 0 <ℤ w.slide → IsStartOf w s → is_start w s ≡ true
is_start-from w s h is =
    let n : (n : ℕ) × (0 < n) × (w.slide ≡ pos n) = natural_above w.slide h in
    let slide : w.slide ≡ pos n.0 = n.2 in
    let k : ℤ = is.0 in
    let at : s ≡ w.offset +ℤ (k *ℤ w.slide) = is.1 in
    let back : s -ℤ w.offset ≡ k *ℤ w.slide = alone_right s w.offset (k *ℤ w.slide) at in
    test_from_eq _ _ (ap (λ z. int_rem_euclid z w.slide) back ∙ ap (λ d. int_rem_euclid (k *ℤ d) d) slide ∙ no_remainder k n.0 n.1)

is_start-to : (w : WindowSpec) (s : ℤ) → pos 0 <ℤ w.slide → is_start w s ≡ true → IsStartOf w s
is_start-to w s h is =
    let n : (n : ℕ) × (0 < n) × (w.slide ≡ pos n) = natural_above w.slide h in
    let slide : w.slide ≡ pos n.0 = n.2 in
    let none : int_rem_euclid (s -ℤ w.offset) (pos n.0) ≡ pos 0 = ap (λ d. int_rem_euclid (s -ℤ w.offset) d) (sym slide) ∙ eq_from_test _ _ is in
    let found : (k : ℤ) × (s -ℤ w.offset ≡ k *ℤ pos n.0) = has_multiple (s -ℤ w.offset) n.0 n.1 none in
    (found.0, back_again s w.offset (found.0 *ℤ w.slide) (found.1 ∙ ap (λ d. found.0 *ℤ d) (sym slide)))

pub le_from_test : (a b : ℤ) → int_le a b ≡ true → a ≤ℤ b
le_from_test a b h = grind (arith, ints)

pub lt_from_test : (a b : ℤ) → int_lt a b ≡ true → a <ℤ b
lt_from_test a b h = grind (arith, ints)

pub test_from_le : (a b : ℤ) → a ≤ℤ b → int_le a b ≡ true
test_from_le a b h = grind (arith, ints)

test_from_lt : (a b : ℤ) → a <ℤ b → int_lt a b ≡ true
test_from_lt a b h = grind (arith, ints)

pub windows_are_those : WindowsAreThose
windows_are_those w t s h = (
  λ is.
      let parts = both (is_start w s) (is_within w s t) is in
      let times = both (int_le s t) (int_lt t (s +ℤ w.size)) parts.1 in
      (is_start-to w s h parts.0, le_from_test s t times.0, lt_from_test t (s +ℤ w.size) times.1),
  λ is.
      and_true (is_start w s) (is_within w s t) (is_start-from w s h is.0)
      (and_true (int_le s t) (int_lt t (s +ℤ w.size)) (test_from_le s t is.1) (test_from_lt t (s +ℤ w.size) is.2)),
)
