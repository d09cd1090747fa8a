-- The first count at which a partition's watermark is reached.
use Rattle.std.proofs.Common.{◌≡◌, ℕ, zero, suc, ◌+◌, ◌<◌, ◌≤◌, ℤ, ◌≤ℤ◌, ◌<ℤ◌, ◌==◌, Bool, true, false, List, length, Option, Some, None, refl, subst, inl, inr, arith}
use Rattle.std.proofs.lemmas.Bool.{cases_eq, cases_Bool}
use Rattle.std.proofs.lemmas.Int.{ints}
use Rattle.std.specs.Prelude.{int_le}
use Rattle.std.specs.List.{find, range_with_len}
use Rattle.std.specs.Option.{option_map_or}
use Rattle.plain_data.specs.Times.{highest}
use Rattle.stream_model.specs.declared.entry.Marked.{Marked}
use Rattle.stream_model.specs.Watermarks.{partition_watermark}
use Rattle.input_cuts.specs.Cuts.{first_count}
use Rattle.stream_model.proofs.Facts.{above}
use Rattle.plan_model.proofs.Facts.{test_from_le, le_from_test}

pub is_below : (a b : ℤ) → b <ℤ a → int_le a b ≡ false
is_below a b h = grind (arith, ints)

-- the first place that passes is found, and none where none passes
found : (test : ℕ → Bool) (from len n : ℕ) → from ≤ n → n < from + len → test n ≡ true → ((m : ℕ) → m < n → test m ≡ false) → find test (range_with_len from len) ≡ Some n
found test from zero n low high is before = absurd (omega arith)
found test from (suc len) n low high is before = elim (cases_eq n from) as (λ _. find test (range_with_len from (suc len)) ≡ Some n) [
  | inl e ↦ (let here : test from ≡ true = subst (λ k. test k ≡ true) e is in rw (here, e) refl)
  | inr ne ↦ (let not_yet : test from ≡ false = before from (omega arith) in rw not_yet (found test (from + 1) len n (omega arith) (omega arith) is before))
]

not_found : (test : ℕ → Bool) (from len : ℕ) → ((m : ℕ) → m < from + len → test m ≡ false) → find test (range_with_len from len) ≡ None
not_found test from zero none = refl
not_found test from (suc len) none = let here = none from (omega arith) in rw here (not_found test (from + 1) len (λ m l. none m (omega arith)))

-- the count at which the watermark is reached first
pub count_at : (w : ℤ) (entries : List Marked) (n : ℕ) → n < length entries → w ≤ℤ partition_watermark entries n → ((m : ℕ) → m < n → partition_watermark entries m <ℤ w) → n ≡ first_count w entries
count_at w entries n short reached before =
    let test = λ (k : ℕ). int_le w (partition_watermark entries k) in
    let is = found test 0 (length entries) n (omega arith) (omega arith) (test_from_le w (partition_watermark entries n) reached) (λ m l. is_below w (partition_watermark entries m) (before m l)) in
    rw is refl

pub count_past : (w : ℤ) (entries : List Marked) → ((m : ℕ) → m < length entries → partition_watermark entries m <ℤ w) → length entries ≡ first_count w entries
count_past w entries before =
    let test = λ (k : ℕ). int_le w (partition_watermark entries k) in
    let is = not_found test 0 (length entries) (λ m l. is_below w (partition_watermark entries m) (before m (omega arith))) in
    rw is refl

-- ---- what is found

-- no place below passes, and it does, or none does
abbrev Found : (ℕ → Bool) → ℕ → ℕ → Option ℕ → Type 0
Found test from len None = (m : ℕ) → from ≤ m → m < from + len → test m ≡ false
Found test from len (Some n) = (n < from + len) × (test n ≡ true) × ((m : ℕ) → from ≤ m → m < n → test m ≡ false)

is_found : (test : ℕ → Bool) (from len : ℕ) → Found test from len (find test (range_with_len from len))
is_found test from zero = λ m low high. absurd (omega arith)
is_found test from (suc len) = elim (cases_Bool (test from)) [
  | inl e ↦ rw e (omega arith, e, λ m low high. absurd (omega arith))
  | inr e ↦ rw e (later (find test (range_with_len (from + 1) len)) e (is_found test (from + 1) len))
]
  where
    past : (m : ℕ) → from ≤ m → test from ≡ false → (from + 1 ≤ m → test m ≡ false) → test m ≡ false
    past m low e h = elim (cases_eq m from) as (λ _. test m ≡ false) [ inl is ↦ rw is e | inr ne ↦ h (omega arith) ]

    later : (o : Option ℕ) → test from ≡ false → Found test (from + 1) len o → Found test from (suc len) o
    later None e h = λ m low high. past m low e (λ up. h m up (omega arith))
    later (Some n) e h = ((let l = h.0 in omega (arith, l)), h.1, λ m low high. past m low e (λ up. h.2 m up high))

-- the first count is one of the partition, its watermark is reached there, and at none before
pub record IsFirst (w : ℤ) (entries : List Marked) (n : ℕ) : Type 0 where
  pub within : n ≤ length entries
  pub reached : w ≤ℤ partition_watermark entries n
  pub first : (m : ℕ) → m < n → partition_watermark entries m <ℤ w

n_eqb : (n : ℕ) → (n == n) ≡ true
n_eqb n = grind arith

at_end : (entries : List Marked) → partition_watermark entries (length entries) ≡ highest
at_end entries = let h = n_eqb (length entries) in rw h refl

abbrev reaches : ℤ → List Marked → ℕ → Bool
reaches w entries n = int_le w (partition_watermark entries n)

of_found : (w : ℤ) (entries : List Marked) → w ≤ℤ highest → (o : Option ℕ) → Found (reaches w entries) 0 (length entries) o → IsFirst w entries (option_map_or (λ n. n) o (length entries))
of_found w entries low None h = record {
  within = omega arith;
  reached = rw (at_end entries) low;
  first = λ m l. above w (partition_watermark entries m) (h m (omega arith) (omega arith));
}
of_found w entries low (Some n) h = record {
  within = (let l = h.0 in omega (arith, l));
  reached = le_from_test w (partition_watermark entries n) h.1;
  first = λ m l. above w (partition_watermark entries m) (h.2 m (omega arith) l);
}

pub is_first : (w : ℤ) (entries : List Marked) → w ≤ℤ highest → IsFirst w entries (first_count w entries)
is_first w entries low = of_found w entries low (find (reaches w entries) (range_with_len 0 (length entries))) (is_found (reaches w entries) 0 (length entries))
