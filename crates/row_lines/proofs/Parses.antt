-- What a number's text gives where it is parsed.
use Rattle.std.proofs.Common.{◌≡◌, ℕ, suc, ℤ, pos, negsuc, neg_ℤ, ◌^◌, ◌<◌, ◌≤◌, List, ◌∷◌, Result, Ok, Err, FitsSigned, true, rules, arith, refl, ap, ◌∙◌}
use mir.Syntax.{w128}
use Rattle.std.specs.Fmt.{decimal, signed_decimal}
use Rattle.std.specs.Result.{OkIff}
use Rattle.std.specs.Str.{bytes_eq}
use Rattle.std.proofs.lemmas.Slice.Eq.{bytes_eq-Decides}
use Rattle.std.specs.Str.Parse.{AllDigits, digits_value, ParsesSigned}
use Rattle.std.proofs.lemmas.Fmt.{decimal_is_IsNumeral_wide}
use Rattle.std.proofs.lemmas.Str.Parse.{IsNumeralModel, numerals_by_value, tells_digits, parse_signed_minus, parse_signed_digits}

pub own : IsNumeralModel (AllDigits 10) (digits_value 10)
own = numerals_by_value (AllDigits 10) tells_digits

given : {E : Type 0} (r : Result ℤ E) (P : Type 0) (x : ℤ) → OkIff r P x → P → r ≡ Ok x
given (Ok y) P x h p = ap (λ z. Ok z) h.1
given (Err e) P x h p = absurd (h p)

-- of a number of 128 bits
pub parse_wide : {E : Type 0} (z : ℤ) (r : Result ℤ E) → FitsSigned w128 z → ParsesSigned w128 10 (signed_decimal z) r → r ≡ Ok z
parse_wide (pos n) r fits h =
    let small : n < 2 ^ 127 = search rules in
    let digits = decimal_is_IsNumeral_wide n (omega arith) in
    let value : digits_value 10 (decimal n) ≡ n = digits.1 in
    given r _ (pos (digits_value 10 (decimal n))) (parse_signed_digits own w128 (decimal n) r h digits.0.1) (digits.0.0, rw value small) ∙ ap (λ v. Ok (pos v)) value
parse_wide (negsuc n) r fits h =
    let small : suc n ≤ 2 ^ 127 = search rules in
    let digits = decimal_is_IsNumeral_wide (suc n) (omega arith) in
    let value : digits_value 10 (decimal (suc n)) ≡ suc n = digits.1 in
    given r _ (neg_ℤ (pos (digits_value 10 (decimal (suc n))))) (parse_signed_minus own w128 (45 ∷ decimal (suc n)) r h refl) (digits.0.1, digits.0.0, rw value small) ∙ ap (λ v. Ok (neg_ℤ (pos v))) value

pub bytes_same : (xs ys : List ℕ) → xs ≡ ys → bytes_eq xs ys ≡ true
bytes_same xs ys e = let decides = bytes_eq-Decides xs ys in decides.1 e
