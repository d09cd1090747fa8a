-- A watermark that is rounded down to the last time of a window.
use Rattle.std.proofs.Common.{◌≡◌, ℕ, suc, ℤ, pos, negsuc, neg_ℤ, ◌+◌, ◌-◌, ◌*◌, ◌/◌, ◌%◌, ◌<◌, ◌≤◌, ◌+ℤ◌, ◌-ℤ◌, ◌*ℤ◌, ◌<ℤ◌, ◌≤ℤ◌, Bool, true, false, refl, sym, ap, ◌∙◌, inl, inr, arith}
use Rattle.std.specs.Int.{int_rem_euclid}
use Rattle.std.specs.Int.RustNames.{int_le}
use Rattle.std.proofs.lemmas.Int.{ints}
use Rattle.std.proofs.lemmas.Bool.{cases_lt}
use Rattle.std.proofs.lemmas.Nat.{div-add-mod', mod_below}
use Rattle.std.proofs.Math.Nat.{mul-le-mul_right}
use Rattle.std.proofs.Math.IntN.{pos-*ℤ-pos, negsuc-*ℤ-pos}
use Rattle.plan_model.specs.declared.spec.WindowSpec.{WindowSpec}
use Rattle.plan_model.specs.Windows.{IsStartOf, IsWindowOf}
use Rattle.plan_model.specs.Rows.{is_due}
use Rattle.stream_model.specs.Late.{is_late_time}
use Rattle.import_entries.specs.declared.ends.WindowEnds.{WindowEnds}
use Rattle.std.proofs.Common.{◌^◌, Option, Some, None}
use Rattle.plan_model.specs.declared.limits.TheConstants.{TIME_LIMIT}
use Rattle.import_entries.specs.Entries.{timely, reached}
use Rattle.import_entries.specs.Ends.{distance, last_end, AreEndsOf}
use Rattle.plan_model.proofs.Facts.{natural_above, le_from_test, test_from_le}

-- a number is a multiple and its remainder
pub record Divided (z : ℤ) (n : ℕ) : Type 0 where
  pub quotient : ℤ
  pub left : ℕ
  pub small : left < n
  pub whole : z ≡ quotient *ℤ pos n +ℤ pos left
  pub rest : int_rem_euclid z (pos n) ≡ pos left

divided : (z : ℤ) (n : ℕ) → 0 < n → Divided z n
divided (pos a) n h = record {
  quotient = pos (a / n);
  left = a % n;
  small = mod_below a n h;
  whole = omega (arith, ints, pos-*ℤ-pos (a / n) n, div-add-mod' a n);
  rest = refl;
}
divided (negsuc a) n h = record {
  quotient = negsuc (a / n);
  left = n - 1 - a % n;
  small = omega (arith, mod_below a n h);
  whole = omega (arith, ints, negsuc-*ℤ-pos (a / n) n, div-add-mod' a n, mod_below a n h);
  rest = refl;
}

steps_nat : (a b n r : ℕ) → r < n → a * n ≤ b * n + r → a * n ≤ b * n
steps_nat a b n r small h = elim (cases_lt b a) [
  | inl less ↦
      let next : suc b ≤ a = omega arith in
      let more : suc b * n ≤ a * n = mul-le-mul_right n next in
      absurd (omega arith)
  | inr least ↦ mul-le-mul_right n least
]

-- a multiple that is no more than another and a remainder is no more than the other
steps : (k q : ℤ) (n r : ℕ) → r < n → (k *ℤ pos n) ≤ℤ (q *ℤ pos n +ℤ pos r) → (k *ℤ pos n) ≤ℤ (q *ℤ pos n)
steps (pos a) (pos b) n r small h =
    let found = steps_nat a b n r small (omega (arith, ints, pos-*ℤ-pos a n, pos-*ℤ-pos b n)) in
    omega (arith, ints, pos-*ℤ-pos a n, pos-*ℤ-pos b n)
steps (pos a) (negsuc b) n r small h = absurd (omega (arith, ints, pos-*ℤ-pos a n, negsuc-*ℤ-pos b n))
steps (negsuc a) (pos b) n r small h = omega (arith, ints, negsuc-*ℤ-pos a n, pos-*ℤ-pos b n)
steps (negsuc a) (negsuc b) n r small h =
    let found = steps_nat (suc b) (suc a) n r small (omega (arith, ints, negsuc-*ℤ-pos a n, negsuc-*ℤ-pos b n)) in
    omega (arith, ints, negsuc-*ℤ-pos a n, negsuc-*ℤ-pos b n)

-- the watermark and what it is rounded to, by the first time of an end
pub record Rounded (ends : WindowEnds) (mark : ℤ) : Type 0 where
  pub step : ℕ
  pub slide : ends.slide ≡ pos step
  pub quotient : ℤ
  pub left : ℕ
  pub small : left < step
  pub mark_is : mark ≡ ((ends.offset +ℤ ends.size) -ℤ pos 1) +ℤ (quotient *ℤ pos step +ℤ pos left)
  pub last_is : last_end ends mark ≡ ((ends.offset +ℤ ends.size) -ℤ pos 1) +ℤ (quotient *ℤ pos step)

moved : (mark offset size whole : ℤ) → ((mark -ℤ offset) -ℤ size) +ℤ pos 1 ≡ whole → mark ≡ ((offset +ℤ size) -ℤ pos 1) +ℤ whole
moved mark offset size whole e = omega (arith, ints)

less : (mark first a : ℤ) (b : ℕ) → mark ≡ first +ℤ (a +ℤ pos b) → mark -ℤ pos b ≡ first +ℤ a
less mark first a b e = omega (arith, ints)

pub rounded_is : (ends : WindowEnds) (mark : ℤ) → Rounded ends mark
unfolding last_end
rounded_is ends mark =
    let n = natural_above ends.slide ends.slides in
    let first = (ends.offset +ℤ ends.size) -ℤ pos 1 in
    let d = divided (distance ends mark) n.0 n.1 in
    let whole : mark ≡ first +ℤ (d.quotient *ℤ pos n.0 +ℤ pos d.left) = moved mark ends.offset ends.size (d.quotient *ℤ pos n.0 +ℤ pos d.left) d.whole in
    let rest : int_rem_euclid (distance ends mark) ends.slide ≡ pos d.left = ap (λ (s : ℤ). int_rem_euclid (distance ends mark) s) n.2 ∙ d.rest in
    record {
      step = n.0;
      slide = n.2;
      quotient = d.quotient;
      left = d.left;
      small = d.small;
      mark_is = whole;
      last_is = ap (λ (r : ℤ). mark -ℤ r) rest ∙ less mark first (d.quotient *ℤ pos n.0) d.left whole;
    }

-- a watermark is rounded down
pub no_more : (ends : WindowEnds) (mark : ℤ) → last_end ends mark ≤ℤ mark
no_more ends mark =
    let r = rounded_is ends mark in
    omega (arith, ints, r.mark_is, r.last_is)

same_test : (x y : Bool) → (x ≡ true → y ≡ true) → (y ≡ true → x ≡ true) → x ≡ y
same_test true true f g = refl
same_test false false f g = refl
same_test true false f g = sym (f refl)
same_test false true f g = g refl

same_le : (a b c d : ℤ) → (a ≤ℤ b → c ≤ℤ d) → (c ≤ℤ d → a ≤ℤ b) → int_le a b ≡ int_le c d
same_le a b c d f g =
    same_test (int_le a b) (int_le c d) (λ h. test_from_le c d (f (le_from_test a b h))) (λ h. test_from_le a b (g (le_from_test c d h)))

-- the last time of a window, by how many slides it begins behind the offset
end_of : (w : WindowSpec) (ends : WindowEnds) (s k : ℤ) (n : ℕ) → AreEndsOf w ends → ends.slide ≡ pos n → s ≡ w.offset +ℤ (k *ℤ w.slide) → s +ℤ w.size -ℤ pos 1 ≡ ((ends.offset +ℤ ends.size) -ℤ pos 1) +ℤ (k *ℤ pos n)
end_of w ends s k n are slide at =
    let product : k *ℤ w.slide ≡ k *ℤ pos n = ap (λ (d : ℤ). k *ℤ d) (are.1 ∙ slide) in
    omega (arith, ints, are.0, are.2, product, at)

due_to : (first a b last mark end : ℤ) (r : ℕ) → end ≡ first +ℤ a → mark ≡ first +ℤ (b +ℤ pos r) → end ≤ℤ mark → a ≤ℤ (b +ℤ pos r)
due_to first a b last mark end r e m h = omega (arith, ints)

-- just the same windows are due
pub same_due : (ends : WindowEnds) (mark : ℤ) (w : WindowSpec) → AreEndsOf w ends → (s : ℤ) → IsStartOf w s → is_due w (last_end ends mark) s ≡ is_due w mark s
same_due ends mark w are s start =
    let r = rounded_is ends mark in
    let first = (ends.offset +ℤ ends.size) -ℤ pos 1 in
    let a = start.0 *ℤ pos r.step in
    let b = r.quotient *ℤ pos r.step in
    let end : s +ℤ w.size -ℤ pos 1 ≡ first +ℤ a = end_of w ends s start.0 r.step are r.slide start.1 in
    let down = no_more ends mark in
    same_le (s +ℤ w.size -ℤ pos 1) (last_end ends mark) (s +ℤ w.size -ℤ pos 1) mark
    (λ h. omega (arith, ints))
    (λ h.
    let most = steps start.0 r.quotient r.step r.left r.small (due_to first a b (last_end ends mark) mark (s +ℤ w.size -ℤ pos 1) r.left end r.mark_is h) in
    omega (arith, ints, end, r.last_is, most))

-- of windows that do not overlap a time is late just where its window is due
pub late_due : (ends : WindowEnds) (mark : ℤ) (w : WindowSpec) → AreEndsOf w ends → w.size ≡ w.slide → (t s : ℤ) → IsWindowOf w t s → is_late_time (last_end ends mark) t ≡ is_due w mark s
late_due ends mark w are apart t s window =
    let r = rounded_is ends mark in
    let first = (ends.offset +ℤ ends.size) -ℤ pos 1 in
    let k = window.0.0 in
    let a = k *ℤ pos r.step in
    let b = r.quotient *ℤ pos r.step in
    let end : s +ℤ w.size -ℤ pos 1 ≡ first +ℤ a = end_of w ends s k r.step are r.slide window.0.1 in
    let size : w.size ≡ pos r.step = apart ∙ are.1 ∙ r.slide in
    let behind : (r.step - 1) < r.step = omega (arith, r.small) in
    same_le t (last_end ends mark) (s +ℤ w.size -ℤ pos 1) mark
    (λ h.
    let most = steps k r.quotient r.step (r.step - 1) behind (omega (arith, ints, end, size, r.last_is, window.1, r.small)) in
    omega (arith, ints, end, r.mark_is, most))
    (λ h.
    let most = steps k r.quotient r.step r.left r.small (due_to first a b (last_end ends mark) mark (s +ℤ w.size -ℤ pos 1) r.left end r.mark_is h) in
    omega (arith, ints, end, r.last_is, most, window.2))

low_is_none : (m : ℤ) → m <ℤ neg_ℤ (pos (2 ^ 63)) → timely m ≡ None
low_is_none m low =
    let no : int_le (neg_ℤ TIME_LIMIT) m ≡ false = grind (arith, ints) in
    rw no refl

below : (x : ℤ) → (neg_ℤ (pos (2 ^ 63)) ≤ℤ x → ⊥) → x <ℤ neg_ℤ (pos (2 ^ 63))
below x h = grind (arith, ints)

-- what 64 bits do not hold is no watermark
pub untimely : (ends : Option WindowEnds) (x : ℤ) → (neg_ℤ (pos (2 ^ 63)) ≤ℤ x → ⊥) → timely (reached ends x) ≡ None
untimely None x h = low_is_none x (below x h)
untimely (Some ends) x h =
    let less = below x h in
    let down = no_more ends x in
    low_is_none (last_end ends x) (omega (arith, ints))
