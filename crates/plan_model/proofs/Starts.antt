-- Which windows a time lies in, by the remainder of its distance from the offset.
use Rattle.std.proofs.Common.{◌≡◌, ℕ, zero, suc, ℤ, pos, negsuc, ◌+ℤ◌, ◌-ℤ◌, ◌+◌, ◌-◌, ◌*◌, ◌/◌, ◌||◌, ◌%◌, ◌<◌, ◌≤◌, ◌==◌, nat_lt, ◌<ℤ◌, ◌≤ℤ◌, ◌⊎◌, ◌≢◌, Bool, true, false, ◌&&◌, refl, sym, ap, ◌∙◌, zero-add, inl, inr, arith}
use Rattle.std.specs.Int.{int_rem_euclid}
use Rattle.std.specs.Int.RustNames.{int_le, int_lt}
use Rattle.std.specs.Ordering.{int_eq}
use Rattle.std.proofs.lemmas.Int.{ints, int_rem_euclid_is, by_lt_z}
use Rattle.std.proofs.lemmas.Bool.{cases_lt, lt-ltb, le-ltb, ne_eqb, eq-eqb}
use Rattle.std.proofs.lemmas.Bool.Decides.{same_from_decides, Decides-like, Decides-int_eq, Decides-eqb, eqb_tells}
use Rattle.plan_model.specs.declared.spec.WindowSpec.{WindowSpec}
use Rattle.plan_model.specs.Windows.{is_start, is_within}
use Rattle.std.proofs.Math.Nat.{div-add-mod, mul-le-mul_left, mod-add-mod, add-mod-mod, mod-lt, mod-eq_of_lt, add-mod_right}

-- some multiple of n makes z a natural
pub lifted : (z : ℤ) (n : ℕ) → 0 < n → (k : ℕ) × (m : ℕ) × (z +ℤ pos (k * n) ≡ pos m)
lifted (pos a) n h = (0, a, omega (arith, ints))
lifted (negsuc b) (suc p) h = (suc b, suc b * p, omega (arith, ints))
lifted (negsuc b) zero h = absurd (omega arith)

-- the remainder, and that of a number that is j more
pub rem-add : (z : ℤ) (j n : ℕ) → 0 < n → (r : ℕ) × (r < n) × (int_rem_euclid z (pos n) ≡ pos r) × (int_rem_euclid (z +ℤ pos j) (pos n) ≡ pos ((r + j) % n))
rem-add z j n h =
    let up : (k : ℕ) × (m : ℕ) × (z +ℤ pos (k * n) ≡ pos m) = lifted z n h in
    let k = up.0 in
    let m = up.1 in
    let e : z +ℤ pos (k * n) ≡ pos m = up.2 in
    let further : (z +ℤ pos j) +ℤ pos (k * n) ≡ pos (m + j) = omega (arith, ints, e) in (
      m % n,
      omega arith,
      int_rem_euclid_is z (pos n) n k m h refl e,
      int_rem_euclid_is (z +ℤ pos j) (pos n) n k (m + j) h refl further ∙ ap pos (sym (mod-add-mod m n j)),
    )

-- r is 0 where it adds nothing
adds_nothing : (r q n : ℕ) → r < n → q < n → (r + q) % n ≡ q → r ≡ 0
adds_nothing r q n h k e =
    elim (cases_lt (r + q) n) [
      | inl below ↦ let f : r + q ≡ q = sym (mod-eq_of_lt below) ∙ e in omega arith
      | inr above ↦
          let d : ℕ = (r + q) - n in
          let split : r + q ≡ d + n = omega arith in
          let small : d < n = omega arith in
          let f : d ≡ q = sym (mod-eq_of_lt small) ∙ sym (add-mod_right d n) ∙ ap (λ x. x % n) (sym split) ∙ e in
          omega arith
    ]

rem_zero : (r j n : ℕ) → 0 < n → r < n → j % n ≡ (r + j) % n → r ≡ 0
rem_zero r j n h k e = adds_nothing r (j % n) n k (mod-lt j h) (add-mod-mod r j n ∙ sym e)

pub pos_same : (a b : ℕ) → pos a ≡ pos b → a ≡ b
pos_same a b e = cc

-- a window begins j before the time just where j has the remainder of the time
pub start_back : (t offset : ℤ) (j n r : ℕ) → 0 < n → int_rem_euclid (t -ℤ offset) (pos n) ≡ pos r
    → int_eq (int_rem_euclid ((t -ℤ pos j) -ℤ offset) (pos n)) (pos 0) ≡ (j % n == r)
start_back t offset j n r h is =
    let z : ℤ = (t -ℤ pos j) -ℤ offset in
    let found : (r' : ℕ) × (r' < n) × (int_rem_euclid z (pos n) ≡ pos r') × (int_rem_euclid (z +ℤ pos j) (pos n) ≡ pos ((r' + j) % n)) = rem-add z j n h in
    let back : z +ℤ pos j ≡ t -ℤ offset = omega (arith, ints) in
    let same : r ≡ (found.0 + j) % n = pos_same _ _ (sym is ∙ ap (λ x. int_rem_euclid x (pos n)) (sym back) ∙ found.3) in
    same_from_decides {P = found.0 ≡ 0} _ _
    (Decides-like _ (λ e. pos_same _ _ (sym found.2 ∙ e)) (λ e. found.2 ∙ ap pos e) (Decides-int_eq (int_rem_euclid z (pos n)) (pos 0)))
    (Decides-like _ (λ e. rem_zero found.0 j n h found.1 (e ∙ same)) (λ e. ap (λ x. x % n) (sym (zero-add j)) ∙ ap (λ x. (x + j) % n) (sym e) ∙ sym same) (Decides-eqb (j % n) r))

within_at : (t : ℤ) (j m : ℕ) → (int_le (t -ℤ pos j) t && int_lt t ((t -ℤ pos j) +ℤ pos m)) ≡ nat_lt j m
within_at t j m = grind (arith, ints)

-- the window that begins j before the time
pub window_at : (w : WindowSpec) (t : ℤ) (j n m r : ℕ) → 0 < n → w.slide ≡ pos n → w.size ≡ pos m → int_rem_euclid (t -ℤ w.offset) (pos n) ≡ pos r
    → (is_start w (t -ℤ pos j) && is_within w (t -ℤ pos j) t) ≡ (j % n == r && nat_lt j m)
window_at w t j n m r h slide size is =
    rw (slide, size, start_back t w.offset j n r h is, within_at t j m) refl

-- no window that begins after the time has it
pub window_after : (w : WindowSpec) (s t : ℤ) → t <ℤ s → is_within w s t ≡ false
window_after w s t h = grind (arith, ints)

pub natural : (z : ℤ) → pos 0 ≤ℤ z → (j : ℕ) × (z ≡ pos j)
natural (pos n) h = (n, refl)
natural (negsuc n) h = absurd (omega (arith, ints))

-- s is some way before t, or after it
pub before_or_after : (s t : ℤ) → ((j : ℕ) × (s ≡ t -ℤ pos j)) ⊎ (t <ℤ s)
before_or_after s t = by_lt_z t s (λ h. inr h) (λ h.
    let above : pos 0 ≤ℤ (t -ℤ s) = omega (arith, ints) in
    let far : (j : ℕ) × (t -ℤ s ≡ pos j) = natural (t -ℤ s) above in
    let e : t -ℤ s ≡ pos far.0 = far.1 in
    inl (far.0, omega (arith, ints, e)))

pub and_false : (b : Bool) → (b && false) ≡ false
and_false true = refl
and_false false = refl

pub and_true : (b : Bool) → (b && true) ≡ b
and_true true = refl
and_true false = refl

same_shift : (t : ℤ) (j r : ℕ) → int_eq (t -ℤ pos r) (t -ℤ pos j) ≡ (j == r)
same_shift t j r = grind (arith, ints)

not_later : (s t : ℤ) (r : ℕ) → t <ℤ s → int_eq (t -ℤ pos r) s ≡ false
not_later s t r h = grind (arith, ints)

pub remainder : (z : ℤ) (n : ℕ) → 0 < n → (r : ℕ) × (r < n) × (int_rem_euclid z (pos n) ≡ pos r)
remainder z n h = let found : (r : ℕ) × (r < n) × (int_rem_euclid z (pos n) ≡ pos r) × (int_rem_euclid (z +ℤ pos 0) (pos n) ≡ pos ((r + 0) % n)) = rem-add z 0 n h in
    (found.0, found.1, found.2)

-- ---- windows that overlap

-- equal remainders are a whole number of n apart
same_remainder : (j b n : ℕ) → 0 < n → j % n ≡ b % n → b < j → b + n ≤ j
same_remainder j b n h e less =
    let qj : n * (j / n) + j % n ≡ j = div-add-mod j n in
    let qb : n * (b / n) + b % n ≡ b = div-add-mod b n in
    elim (cases_lt (b / n) (j / n)) [
      | inl above ↦
          let step : b / n + 1 ≤ j / n = omega arith in
          let product : n * (b / n + 1) ≤ n * (j / n) = mul-le-mul_left n step in
          omega (arith, product)
      | inr below ↦
          let product : n * (j / n) ≤ n * (b / n) = mul-le-mul_left n below in
          absurd (omega (arith, product))
    ]

-- the windows of the time that begin after b before it
abbrev pub is_reached : WindowSpec → ℤ → ℕ → ℤ → Bool
is_reached w t b s = (is_start w s && is_within w s t) && int_lt (t -ℤ pos b) s

after_test : (t : ℤ) (b j : ℕ) → int_lt (t -ℤ pos b) (t -ℤ pos j) ≡ nat_lt j b
after_test t b j = grind (arith, ints)

pub or_false : (b : Bool) → (b || false) ≡ b
or_false true = refl
or_false false = refl

nat_step : (j b n m r : ℕ) → 0 < n → b % n ≡ r → b < m
    → ((j % n == r && nat_lt j m) && nat_lt j (b + n)) ≡ (((j % n == r && nat_lt j m) && nat_lt j b) || (j == b))
nat_step j b n m r h e low = elim (eqb_tells j b) [
  | inl same ↦
      let is : j ≡ b = same.1 in
      let t1 : (j % n == r) ≡ true = eq-eqb (j % n) r (ap (λ x. x % n) same.1 ∙ e) in
      let t2 : nat_lt j m ≡ true = lt-ltb j m (omega arith) in
      let t3 : nat_lt j (b + n) ≡ true = lt-ltb j (b + n) (omega arith) in
      let t4 : nat_lt j b ≡ false = le-ltb j b (omega arith) in
      let t5 : (j == b) ≡ true = same.0 in
      rw (t1, t2, t3, t4, t5) refl
  | inr other ↦
      let apart : j ≢ b = other.1 in
      let t5 : (j == b) ≡ false = other.0 in
      elim (eqb_tells (j % n) r) [
        | inl yes' ↦
            let t1 : (j % n == r) ≡ true = yes'.0 in
            let same : nat_lt j (b + n) ≡ nat_lt j b = elim (cases_lt j b) [
              | inl below ↦ lt-ltb j (b + n) (omega arith) ∙ sym (lt-ltb j b below)
              | inr above ↦
                  let less : b < j = omega arith in
                  le-ltb j (b + n) (same_remainder j b n h (yes'.1 ∙ sym e) less) ∙ sym (le-ltb j b above)
            ] in
            rw (t1, t5, same) (sym (or_false _))
        | inr no' ↦
            let t1 : (j % n == r) ≡ false = no'.0 in
            rw (t1, t5) refl
      ]
]

-- one step of the slide reaches one window more
pub reached_more : (w : WindowSpec) (t s : ℤ) (b n m r : ℕ) → 0 < n → w.slide ≡ pos n → w.size ≡ pos m → int_rem_euclid (t -ℤ w.offset) (pos n) ≡ pos r
    → b % n ≡ r → b < m → is_reached w t (b + n) s ≡ (is_reached w t b s || int_eq (t -ℤ pos b) s)
reached_more w t s b n m r h slide size is e low = elim (before_or_after s t) [
  | inl far ↦
      ap (is_reached w t (b + n)) far.1
      ∙ (λ i. window_at w t far.0 n m r h slide size is i && after_test t (b + n) far.0 i)
      ∙ nat_step far.0 b n m r h e low
      ∙ sym (λ i. (window_at w t far.0 n m r h slide size is i && after_test t b far.0 i) || same_shift t far.0 b i)
      ∙ sym (λ i. is_reached w t b (far.1 i) || int_eq (t -ℤ pos b) (far.1 i))
  | inr later ↦
      rw (window_after w s t later, and_false (is_start w s), not_later s t b later) refl
]

eq_not_after : (a s : ℤ) → int_eq a s ≡ true → int_lt a s ≡ false
eq_not_after a s h = grind (arith, ints)

-- that window was not reached before
pub reached_once : (w : WindowSpec) (t s : ℤ) (b : ℕ) → int_eq (t -ℤ pos b) s ≡ true → is_reached w t b s ≡ false
reached_once w t s b h = rw (eq_not_after (t -ℤ pos b) s h) (and_false _)

-- at first none is reached
pub reached_none : (w : WindowSpec) (t s : ℤ) (n m r : ℕ) → 0 < n → w.slide ≡ pos n → w.size ≡ pos m → int_rem_euclid (t -ℤ w.offset) (pos n) ≡ pos r
    → r < n → is_reached w t r s ≡ false
reached_none w t s n m r h slide size is low = elim (before_or_after s t) [
  | inl far ↦
      ap (is_reached w t r) far.1
      ∙ (λ i. window_at w t far.0 n m r h slide size is i && after_test t r far.0 i)
      ∙ (elim (cases_lt far.0 r) [
        | inl below ↦
            let small : far.0 < n = omega arith in
            let t1 : (far.0 % n == r) ≡ false = ne_eqb (far.0 % n) r (λ e. let f : far.0 ≡ r = sym (mod-eq_of_lt small) ∙ e in omega arith) in
            rw t1 refl
        | inr above ↦ ap (λ b. (far.0 % n == r && nat_lt far.0 m) && b) (le-ltb far.0 r above) ∙ and_false _
      ])
  | inr later ↦ rw (window_after w s t later, and_false (is_start w s)) refl
]

-- in the end each is
pub reached_all : (w : WindowSpec) (t s : ℤ) (b n m r : ℕ) → 0 < n → w.slide ≡ pos n → w.size ≡ pos m → int_rem_euclid (t -ℤ w.offset) (pos n) ≡ pos r
    → m ≤ b → is_reached w t b s ≡ (is_start w s && is_within w s t)
reached_all w t s b n m r h slide size is high = elim (before_or_after s t) [
  | inl far ↦
      ap (is_reached w t b) far.1
      ∙ (λ i. window_at w t far.0 n m r h slide size is i && after_test t b far.0 i)
      ∙ (elim (cases_lt far.0 m) [
        | inl below ↦ ap (λ x. (far.0 % n == r && nat_lt far.0 m) && x) (lt-ltb far.0 b (omega arith)) ∙ and_true _
        | inr above ↦
            let t2 : nat_lt far.0 m ≡ false = le-ltb far.0 m above in
            rw (t2, and_false (far.0 % n == r)) refl
      ])
      ∙ sym (window_at w t far.0 n m r h slide size is)
      ∙ sym (ap (λ x. is_start w x && is_within w x t) far.1)
  | inr later ↦ rw (window_after w s t later, and_false (is_start w s)) refl
]
