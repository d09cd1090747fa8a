-- The last start of a window that is at most a time.
use Rattle.std.proofs.Common.{◌≡◌, ℕ, ℤ, pos, ◌+ℤ◌, ◌-ℤ◌, ◌+◌, ◌*◌, ◌/◌, ◌%◌, ◌<◌, ◌≤◌, ◌<ℤ◌, ◌≤ℤ◌, true, refl, sym, ap, ◌∙◌, inl, inr, arith}
use Rattle.std.specs.Int.{int_rem_euclid}
use Rattle.std.specs.Ordering.{int_eq}
use Rattle.std.proofs.lemmas.Int.{ints, int_rem_euclid_is}
use Rattle.std.proofs.lemmas.Bool.{cases_lt}
use Rattle.std.proofs.lemmas.Nat.{div-add-mod'}
use Rattle.std.proofs.Math.Nat.{mod-eq_of_lt, add-mod_right, zero-mod, mul-mod_left, mod-le}
use Rattle.plan_model.specs.declared.spec.WindowSpec.{WindowSpec}
use Rattle.plan_model.specs.Windows.{is_start}
use Rattle.plan_model.proofs.Facts.{rem-add, lifted, natural, natural_above, pos_same}
use Rattle.window_slices.specs.Slices.{last_start_by}

-- a number less its remainder has none
none_left : (z : ℤ) (n r : ℕ) → 0 < n → int_rem_euclid z (pos n) ≡ pos r → int_rem_euclid (z -ℤ pos r) (pos n) ≡ pos 0
none_left z n r h is =
    let up : (k : ℕ) × (m : ℕ) × (z +ℤ pos (k * n) ≡ pos m) = lifted z n h in
    let k = up.0 in
    let m = up.1 in
    let e : z +ℤ pos (k * n) ≡ pos m = up.2 in
    let rest : r ≡ m % n = pos_same _ _ (sym is ∙ int_rem_euclid_is z (pos n) n k m h refl e) in
    let whole : m / n * n + m % n ≡ m = div-add-mod' m n in
    let less : (z -ℤ pos r) +ℤ pos (k * n) ≡ pos (m / n * n) = omega (arith, ints, e, rest, whole) in
    int_rem_euclid_is (z -ℤ pos r) (pos n) n k (m / n * n) h refl less ∙ ap pos (mul-mod_left (m / n) n)

-- where the remainder comes to nothing by less than n more, there was none
wraps : (r j n : ℕ) → r < n → 0 < r + j → (r + j) % n ≡ 0 → n ≤ r + j
wraps r j n h some none = elim (cases_lt (r + j) n) [
  | inl below ↦ let e : r + j ≡ 0 = sym (mod-eq_of_lt below) ∙ none in absurd (omega arith)
  | inr above ↦ above
]

pub eq_from : (a b : ℤ) → int_eq a b ≡ true → a ≡ b
eq_from a b h = grind (arith, ints)

pub eq_to : (a b : ℤ) → a ≡ b → int_eq a b ≡ true
eq_to a b h = grind (arith, ints)

-- the last start is at most the time, less than a slide before it, and a start
pub record Reached (w : WindowSpec) (t : ℤ) : Type 0 where
  pub before : last_start_by w t ≤ℤ t
  pub near : t <ℤ (last_start_by w t +ℤ w.slide)
  pub start : is_start w (last_start_by w t) ≡ true

turned : (t offset : ℤ) (r : ℕ) → (t -ℤ pos r) -ℤ offset ≡ (t -ℤ offset) -ℤ pos r
turned t offset r = omega (arith, ints)

pub last_start : (w : WindowSpec) (t : ℤ) → pos 1 ≤ℤ w.slide → Reached w t
last_start w t h =
    let n : (n : ℕ) × (0 < n) × (w.slide ≡ pos n) = natural_above w.slide (omega (arith, ints, h)) in
    let slide : w.slide ≡ pos n.0 = n.2 in
    let found = rem-add (t -ℤ w.offset) 0 n.0 n.1 in
    let r = found.0 in
    let rest : int_rem_euclid (t -ℤ w.offset) w.slide ≡ pos r = ap (λ (d : ℤ). int_rem_euclid (t -ℤ w.offset) d) slide ∙ found.2 in
    let last : last_start_by w t ≡ t -ℤ pos r = ap (λ (d : ℤ). t -ℤ d) rest in
    let none : int_rem_euclid ((t -ℤ w.offset) -ℤ pos r) (pos n.0) ≡ pos 0 = none_left (t -ℤ w.offset) n.0 r n.1 found.2 in
    let at : int_rem_euclid (last_start_by w t -ℤ w.offset) w.slide ≡ pos 0 =
    (λ i. int_rem_euclid (last i -ℤ w.offset) (slide i)) ∙ ap (λ (z : ℤ). int_rem_euclid z (pos n.0)) (turned t w.offset r) ∙ none in
    record {
      before = omega (arith, ints, last);
      near = omega (arith, ints, last, slide, found.1);
      start = eq_to _ _ at;
    }

ahead : (c t offset : ℤ) (j : ℕ) → t -ℤ c ≡ pos j → (c -ℤ offset) +ℤ pos j ≡ t -ℤ offset
ahead c t offset j e = omega (arith, ints)

-- no start lies behind it up to the time
pub no_start_between : (w : WindowSpec) (t c : ℤ) → pos 1 ≤ℤ w.slide → is_start w c ≡ true → c ≤ℤ t → c ≤ℤ last_start_by w t
no_start_between w t c h is le =
    let n : (n : ℕ) × (0 < n) × (w.slide ≡ pos n) = natural_above w.slide (omega (arith, ints, h)) in
    let slide : w.slide ≡ pos n.0 = n.2 in
    let far : (j : ℕ) × (t -ℤ c ≡ pos j) = natural (t -ℤ c) (omega (arith, ints, le)) in
    let found = rem-add (c -ℤ w.offset) far.0 n.0 n.1 in
    let zero : found.0 ≡ 0 = pos_same _ _ (sym found.2 ∙ ap (λ (d : ℤ). int_rem_euclid (c -ℤ w.offset) d) (sym slide) ∙ eq_from _ _ is) in
    let rest : int_rem_euclid (t -ℤ w.offset) w.slide ≡ pos ((found.0 + far.0) % n.0) =
    (let same = sym (ahead c t w.offset far.0 far.1) in λ i. int_rem_euclid (same i) (slide i)) ∙ found.3 in
    let least : (found.0 + far.0) % n.0 ≤ found.0 + far.0 = mod-le _ _ in
    let last : last_start_by w t ≡ t -ℤ pos ((found.0 + far.0) % n.0) = ap (λ (d : ℤ). t -ℤ d) rest in
    omega (arith, ints, last, least, zero, far.1)

behind : (c t offset : ℤ) (j : ℕ) → c -ℤ t ≡ pos j → (t -ℤ offset) +ℤ pos j ≡ c -ℤ offset
behind c t offset j e = omega (arith, ints)

-- a start behind the time is a slide behind the last at least
pub next_start : (w : WindowSpec) (t c : ℤ) → pos 1 ≤ℤ w.slide → is_start w c ≡ true → t <ℤ c → (last_start_by w t +ℤ w.slide) ≤ℤ c
next_start w t c h is lt =
    let n : (n : ℕ) × (0 < n) × (w.slide ≡ pos n) = natural_above w.slide (omega (arith, ints, h)) in
    let slide : w.slide ≡ pos n.0 = n.2 in
    let far : (j : ℕ) × (c -ℤ t ≡ pos j) = natural (c -ℤ t) (omega (arith, ints, lt)) in
    let found = rem-add (t -ℤ w.offset) far.0 n.0 n.1 in
    let rest : int_rem_euclid (t -ℤ w.offset) w.slide ≡ pos found.0 = ap (λ (d : ℤ). int_rem_euclid (t -ℤ w.offset) d) slide ∙ found.2 in
    let last : last_start_by w t ≡ t -ℤ pos found.0 = ap (λ (d : ℤ). t -ℤ d) rest in
    let here : int_rem_euclid (c -ℤ w.offset) (pos n.0) ≡ pos 0 = ap (λ (d : ℤ). int_rem_euclid (c -ℤ w.offset) d) (sym slide) ∙ eq_from _ _ is in
    let moved : int_rem_euclid ((t -ℤ w.offset) +ℤ pos far.0) (pos n.0) ≡ pos 0 = ap (λ (z : ℤ). int_rem_euclid z (pos n.0)) (behind c t w.offset far.0 far.1) ∙ here in
    let there : (found.0 + far.0) % n.0 ≡ 0 = pos_same _ _ (sym found.3 ∙ moved) in
    let some : 0 < far.0 = omega (arith, ints, far.1, lt) in
    let whole : n.0 ≤ found.0 + far.0 = wraps found.0 far.0 n.0 found.1 (omega (arith, some)) there in
    omega (arith, ints, last, slide, whole, far.1)

slid : (c offset slide : ℤ) → (c +ℤ slide) -ℤ offset ≡ (c -ℤ offset) +ℤ slide
slid c offset slide = omega (arith, ints)

-- a slide behind a start is one
pub start_again : (w : WindowSpec) (c : ℤ) → pos 1 ≤ℤ w.slide → is_start w c ≡ true → is_start w (c +ℤ w.slide) ≡ true
start_again w c h is =
    let n : (n : ℕ) × (0 < n) × (w.slide ≡ pos n) = natural_above w.slide (omega (arith, ints, h)) in
    let slide : w.slide ≡ pos n.0 = n.2 in
    let found = rem-add (c -ℤ w.offset) n.0 n.0 n.1 in
    let zero : found.0 ≡ 0 = pos_same _ _ (sym found.2 ∙ ap (λ (d : ℤ). int_rem_euclid (c -ℤ w.offset) d) (sym slide) ∙ eq_from _ _ is) in
    let none : (found.0 + n.0) % n.0 ≡ 0 = add-mod_right found.0 n.0 ∙ ap (λ (r : ℕ). r % n.0) zero ∙ zero-mod n.0 in
    eq_to _ _ (ap (λ (z : ℤ). int_rem_euclid z w.slide) (slid c w.offset w.slide) ∙ (λ i. int_rem_euclid ((c -ℤ w.offset) +ℤ slide i) (slide i)) ∙ found.3 ∙ ap pos none)
