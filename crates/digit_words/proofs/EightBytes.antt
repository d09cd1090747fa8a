-- Eight bytes: the word that they are, and the text that they begin.
use Rattle.std.proofs.Common.{arith, ◌≡◌, ◌<◌, ◌≤◌, ◌+◌, ◌*◌, ◌^◌, ◌++◌, ℕ, List, [], ◌∷◌, length, take, drop, Option, Some, None, w64, refl, sym, ap, ◌∙◌}
use Rattle.std.proofs.Math.Seq.{take-add}
use Rattle.std.proofs.lemmas.List.{take-take, take-append-drop, length-take}
use Rattle.std.proofs.lemmas.List.Folds.{prefix_len-append}
use Rattle.std.specs.List.{prefix_len}
use Rattle.std.specs.Char.{is_ascii_digit}
use Rattle.core.proofs.dec2flt.DigitsLemmas.{digits_value-append}
use Rattle.std.specs.Prelude.{IfSome}
use Rattle.std.specs.Str.Parse.{digits_value}
use Rattle.core.specs.Array.{IsFirstChunk}
use Rattle.core.specs.Int.{from_le_bytes}
use lib.Lanes.{number_l}

pub word_of_eight : (bs : List ℕ) → length bs ≡ 8 → from_le_bytes w64 bs ≡ number_l 256 bs
word_of_eight [] h = absurd (omega arith)
word_of_eight (a ∷ []) h = absurd (omega arith)
word_of_eight (a ∷ b ∷ []) h = absurd (omega arith)
word_of_eight (a ∷ b ∷ c ∷ []) h = absurd (omega arith)
word_of_eight (a ∷ b ∷ c ∷ d ∷ []) h = absurd (omega arith)
word_of_eight (a ∷ b ∷ c ∷ d ∷ e ∷ []) h = absurd (omega arith)
word_of_eight (a ∷ b ∷ c ∷ d ∷ e ∷ f ∷ []) h = absurd (omega arith)
word_of_eight (a ∷ b ∷ c ∷ d ∷ e ∷ f ∷ g ∷ []) h = absurd (omega arith)
word_of_eight (a ∷ b ∷ c ∷ d ∷ e ∷ f ∷ g ∷ i ∷ []) h = omega arith
word_of_eight (a ∷ b ∷ c ∷ d ∷ e ∷ f ∷ g ∷ i ∷ j ∷ bs) h = absurd (omega arith)

-- the digits of the front that are fewer than eight come first in the text
pub says_of_text : (o : Option (ℕ × ℕ)) (t f : List ℕ) → IsFirstChunk t f 8 → IfSome o (λ found. found.0 < 8) → IfSome o (λ found. found.1 ≡ digits_value 10 (take found.0 f)) → IfSome o (λ found. found.1 ≡ digits_value 10 (take found.0 t))
says_of_text None t f front few says = tt
says_of_text (Some found) t f front few says = says ∙ ap (digits_value 10) (ap (take found.0) front.same ∙ take-take found.0 8 t (omega (arith, few)))

-- ---- eight digits, and those behind them

module _ (t f : List ℕ) (front : IsFirstChunk t f 8) (n : ℕ) where
  long : length f ≡ 8
  long = omega (arith, front.enough, length-take 8 t, ap length front.same)

  joined : f ++ drop 8 t ≡ t
  joined = ap (λ l. l ++ drop 8 t) front.same ∙ take-append-drop 8 t

  pub digits_behind : prefix_len is_ascii_digit f ≡ 8 → n ≡ prefix_len is_ascii_digit (drop 8 t) → 8 + n ≡ prefix_len is_ascii_digit t
  digits_behind eight behind =
      let both : prefix_len is_ascii_digit (f ++ drop 8 t) ≡ 8 + prefix_len is_ascii_digit (drop 8 t) = prefix_len-append is_ascii_digit f (drop 8 t) ∙ rw (eight, long) refl in
      ap (λ k. 8 + k) behind ∙ sym both ∙ ap (prefix_len is_ascii_digit) joined

  pub value_behind : (a b : ℕ) → a ≡ digits_value 10 f → b ≡ digits_value 10 (take n (drop 8 t)) → n ≤ length (drop 8 t) → a * 10 ^ n + b ≡ digits_value 10 (take (8 + n) t)
  value_behind a b first last within =
      let back = take n (drop 8 t) in
      let whole : take (8 + n) t ≡ f ++ back = take-add 8 n t ∙ ap (λ l. l ++ back) (sym front.same) in
      let few : length back ≡ n = omega (arith, within, length-take n (drop 8 t)) in
      (λ i. first i * 10 ^ n + last i)
      ∙ ap (λ k. digits_value 10 f * 10 ^ k + digits_value 10 back) (sym few)
      ∙ sym (digits_value-append f back)
      ∙ ap (digits_value 10) (sym whole)
