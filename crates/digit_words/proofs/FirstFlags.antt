-- `flags_from_ten`: a sum without a mask flags the same first byte as the masked one, since no byte before it carries.
use Rattle.core.specs.Prelude.{◌≡◌, ℕ, zero, suc, ◌+◌, ◌*◌, ◌/◌, ◌%◌, ◌^◌, ◌<◌, ◌≤◌, Bool, true, false, cond, leb, eqb, bit_and, bit_or}
use mathlib.Core.Path.{refl, sym, ap, ◌∙◌}
use mathlib.Core.Bool.{beq, true≢false}
use mathlib.Core.Logic.{⊎_elim}
use native.Mathlib.Omega.{arith}
use lib.Arith.{digits_mod}
use lib.Bits.{and_block, or_lt}
use lib.Dec.{eqb→eq}
use borrow.Author.Count.{below_more}
use borrow.Author.Tests.{leb-false}
use Rattle.core.specs.Int.{w64, trailing_zeros}
use Rattle.core.specs.Slice.Scan.{digits_from, flag_word, Flags, HoldsNowhere}
use Rattle.core.proofs.slice.Flagged.{Bytes, or_Bytes, flags, flags_from_ten, same_flags}
use Rattle.core.proofs.str.Laws.{order}
use Rattle.core.proofs.dec2flt.DigitsLemmas.{every_below, beq_is}
use Rattle.digit_words.specs.Flags.{IsFirstFlagOf}

high_bit : (b : ℕ) → b < 256 → bit_and b 128 ≡ cond (leb 128 b) 128 0
high_bit b l = eqb→eq _ _ (every_below (λ x. eqb (bit_and x 128) (cond (leb 128 x) 128 0)) 256 tt b l)

high_bits : (f : ℕ → ℕ) → Bytes f → (n k : ℕ)
    → bit_and (digits_from f k n) (digits_from (λ _. 128) k n) ≡ digits_from (λ j. cond (leb 128 (f j)) 128 0) k n
high_bits f small zero k = refl
high_bits f small (suc n) k =
    let x : f k + 256 * digits_from f (suc k) n ≡ digits_from f (suc k) n * 256 + f k = omega arith in
    let y : 128 + 256 * digits_from (λ _. 128) (suc k) n ≡ digits_from (λ _. 128) (suc k) n * 256 + 128 = omega arith in
    (λ i. bit_and (x i) (y i)) ∙ and_block 8 _ _ _ _ (small k) (omega arith) ∙ omega (arith, high_bits f small n (suc k), high_bit (f k) (small k))

-- with no carry a byte is flagged where it is 10 or more
alone : (y : ℕ) → y < 256 → leb 128 (bit_or ((y + 118) % 256) y) ≡ leb 10 y
alone y l = beq_is _ _ (every_below (λ x. beq (leb 128 (bit_or ((x + 118) % 256) x)) (leb 10 x)) 256 tt y l)

-- ---- the first place of a word's flags

at_start : (p : ℕ → Bool) (m : ℕ) → m ≡ flag_word p → Flags p 0 m
at_start p m e = flags p 0 m (e ∙ same_flags _ _ (λ k. let at : k ≡ 0 + k = omega arith in ap p at))

first_place : (p : ℕ → Bool) (m : ℕ) → Flags p 0 m → 0 < m → let r = trailing_zeros w64 m / 8 in (r < 8) × HoldsNowhere p 0 r × (p r ≡ true)
first_place p m h some =
    let f = h.lowest some in
    let at : trailing_zeros w64 m / 8 ≡ 0 + trailing_zeros w64 m / 8 = omega arith in
    (f.0, (λ k a b. f.1.before k a (omega arith)), ap p at ∙ f.1.hit (omega arith))

at_most : (p : ℕ → Bool) (r t : ℕ) → HoldsNowhere p 0 r → p t ≡ true → r ≤ t
at_most p r t before hit = ⊎_elim (λ below. absurd (true≢false (sym hit ∙ before t (omega arith) below))) (λ above. above) (order t r)

-- ---- the bytes y of a word, those of the sum, and what is carried into each
module _ (y sum carry : ℕ → ℕ) (small : Bytes y) (fits : Bytes sum) (first : carry 0 ≡ 0)
    (adds : (k : ℕ) → sum k + 256 * carry (suc k) ≡ y k + 118 + carry k) where
  abbrev flagged : ℕ → Bool
  flagged k = leb 128 (bit_or (sum k) (y k))

  abbrev from_ten : ℕ → Bool
  from_ten k = leb 10 (y k)

  added : (digits_from y 0 8 + 0x7676_7676_7676_7676) % 2 ^ 64 ≡ digits_from sum 0 8
  added =
      let over : digits_from y 0 8 + 0x7676_7676_7676_7676 ≡ carry 8 * 2 ^ 64 + digits_from sum 0 8 =
      omega (arith, adds 0, adds 1, adds 2, adds 3, adds 4, adds 5, adds 6, adds 7) in
      let within : digits_from sum 0 8 < 2 ^ 64 = omega (arith, fits 0, fits 1, fits 2, fits 3, fits 4, fits 5, fits 6, fits 7) in
      ap (λ z. z % 2 ^ 64) over ∙ digits_mod _ within

  flags_of_sum : (x : ℕ) → x ≡ digits_from y 0 8 → bit_and (bit_or ((x + 0x7676_7676_7676_7676) % 2 ^ 64) x) 0x8080_8080_8080_8080 ≡ flag_word flagged
  flags_of_sum x is =
      let total : (x + 0x7676_7676_7676_7676) % 2 ^ 64 ≡ digits_from sum 0 8 = ap (λ w. (w + 0x7676_7676_7676_7676) % 2 ^ 64) is ∙ added in
      let joined = (λ j. bit_or (total j) (is j)) ∙ or_Bytes sum y fits small in
      ap (λ w. bit_and w 0x8080_8080_8080_8080) joined ∙ high_bits _ (λ k. or_lt 8 (sum k) (y k) (fits k) (small k)) 8 0

  same_flag : (k : ℕ) → carry k ≡ 0 → flagged k ≡ from_ten k
  same_flag k none =
      let is : sum k ≡ (y k + 118) % 256 = omega (arith, adds k, fits k) in
      ap (λ s. leb 128 (bit_or s (y k))) is ∙ alone (y k) (small k)

  before_first : (n : ℕ) → ((k : ℕ) → k < n → flagged k ≡ false) → ((k : ℕ) → k < n → from_ten k ≡ false) × (carry n ≡ 0)
  before_first zero h = ((λ k l. absurd (omega arith)), first)
  before_first (suc n) h =
      let before = before_first n (λ k l. h k (omega arith)) in
      let here : from_ten n ≡ false = sym (same_flag n before.1) ∙ h n (omega arith) in
      let low : y n < 10 = leb-false 10 (y n) here in
      ((λ k l. below_more (λ j. from_ten j ≡ false) n before.0 here k (omega arith)), omega (arith, adds n, fits n, before.1))

  module _ (word masked : ℕ) (of_sum : word ≡ flag_word flagged) (of_ten : masked ≡ flag_word from_ten) where
    by_sum : Flags flagged 0 word
    by_sum = at_start flagged word of_sum

    by_ten : Flags from_ten 0 masked
    by_ten = at_start from_ten masked of_ten

    before : (n : ℕ) → HoldsNowhere flagged 0 n → HoldsNowhere from_ten 0 n × (carry n ≡ 0)
    before n h = let b = before_first n (λ k l. h k (omega arith) l) in ((λ k _ l. b.0 k l), b.1)

    first_of_word : 0 < word → let r = trailing_zeros w64 word / 8 in (r < 8) × HoldsNowhere from_ten 0 r × (from_ten r ≡ true)
    first_of_word some =
        let h = first_place flagged word by_sum some in
        let b = before _ h.1 in
        (h.0, b.0, sym (same_flag _ b.1) ∙ h.2)

    no_flag : word ≡ 0 → masked ≡ 0
    no_flag e = by masked refl
      where
        by : (m : ℕ) → masked ≡ m → masked ≡ 0
        by zero is = is
        by (suc m) is =
            let h = first_place from_ten masked by_ten (omega arith) in
            absurd (true≢false (sym h.2 ∙ (before 8 (by_sum.none e)).0 _ (omega arith) h.0))

    some_flag : 0 < word → 0 < masked
    some_flag some = by masked refl
      where
        by : (m : ℕ) → masked ≡ m → 0 < masked
        by zero is = let h = first_of_word some in absurd (true≢false (sym h.2 ∙ by_ten.none is _ (omega arith) h.0))
        by (suc m) is = omega arith

    pub is_first : IsFirstFlagOf word masked
    is_first = record {
      none = no_flag;
      some = some_flag;
      first = λ some.
          let h = first_of_word some in
          let g = first_place from_ten masked by_ten (some_flag some) in
          omega (arith, at_most from_ten _ _ h.1 g.2, at_most from_ten _ _ g.1 h.2);
    }

abbrev carried : (ℕ → ℕ) → ℕ → ℕ
carried y zero = 0
carried y (suc k) = (y k + 118 + carried y k) / 256

pub first_flags : (x : ℕ) → x < 2 ^ 64
    → IsFirstFlagOf (bit_and (bit_or ((x + 0x7676_7676_7676_7676) % 2 ^ 64) x) 0x8080_8080_8080_8080)
    (bit_and (bit_or (bit_and x 0x7f7f_7f7f_7f7f_7f7f + 0x7676_7676_7676_7676) x) 0x8080_8080_8080_8080)
first_flags x l =
    let y = λ (k : ℕ). x / 256 ^ k % 256 in
    let sum = λ (k : ℕ). (y k + 118 + carried y k) % 256 in
    let small : Bytes y = λ k. omega arith in
    let fits : Bytes sum = λ k. omega arith in
    let is : x ≡ digits_from y 0 8 = omega arith in
    let adds : (k : ℕ) → sum k + 256 * carried y (suc k) ≡ y k + 118 + carried y k = λ k. omega arith in
    is_first y sum (carried y) small fits refl adds _ _ (flags_of_sum y sum (carried y) small fits refl adds x is) (flags_from_ten x y small is)

-- what the flags say of the first place, the word says
pub first_of_flags : (n word flags : ℕ) → IsFirstFlagOf word flags → 0 < word
    → (0 < flags → (n ≡ trailing_zeros w64 flags / 8) × (trailing_zeros w64 flags / 8 < 8))
    → (n ≡ trailing_zeros w64 word / 8) × (trailing_zeros w64 word / 8 < 8)
first_of_flags n word flags h some told =
    let at = h.first some in
    let place = told (h.some some) in
    (place.0 ∙ sym at, rw at place.1)
