-- The product of two decimals.
use Rattle.std.specs.Prelude.{ℕ, ◌+◌, ◌*◌, ◌^◌, ◌==◌, nat_lt, Bool, true, false, not, ◌&&◌, List, ◌++◌, length, codes, ℤ, Result, Ok, Err, if◌then◌else◌}
use Rattle.std.specs.List.{position_or_len, before_first, after_first}
use Rattle.std.specs.Str.Parse.{digits_value, starts_with_minus}
use Rattle.field_values.specs.declared.fault.FieldFault.{FieldFault}
use Rattle.field_values.specs.declared.fault.FieldFault.TheVariants.{NoNumber, TooLarge}
use Rattle.field_values.specs.Decimals.{whole_digits, decimal_digits, is_decimal}
use Rattle.decimal_texts.specs.declared.factor.Factor.{Factor}
use Rattle.decimal_texts.specs.Exponents.{has_mark, mantissa, exponent_text, is_exponent, exponent_said}
use Rattle.decimal_texts.specs.Exact.{exact_quotient, sized, exact_said}

-- what stands before an exponent
abbrev pub decimal_part : List ℕ → List ℕ
decimal_part text = if has_mark text then mantissa text else text

-- and the exponent, which is 0 where none stands there
abbrev pub exponent_part : List ℕ → List ℕ
exponent_part text = if has_mark text then exponent_text text else codes "0"

abbrev pub digits_in : List ℕ → ℕ
digits_in decimal = digits_value 10 (whole_digits decimal ++ decimal_digits decimal)

-- the parts of a decimal and an exponent, whose digits 64 bits without a sign hold
unfoldable pub factor_from : List ℕ → List ℕ → Result Factor FieldFault
factor_from decimal exponent =
    if not (is_decimal decimal && is_exponent exponent) then Err NoNumber
    else if nat_lt (digits_in decimal) (2 ^ 64)
    then Ok (record { is_negative = starts_with_minus decimal; digits = digits_in decimal; raised = (exponent_said exponent).raised; lowered = length (decimal_digits decimal) + (exponent_said exponent).lowered })
    else Err TooLarge

abbrev pub factor_said : List ℕ → Result Factor FieldFault
factor_said text = factor_from (decimal_part text) (exponent_part text)

-- minus where one of two is and the other is not
abbrev pub is_other : Bool → Bool → Bool
is_other true second = not second
is_other false second = second

-- the product times ten to the power of the places, where it is a whole number of 64 bits
unfoldable pub product_from : ℕ → Factor → Factor → Result ℤ FieldFault
product_from places first second =
    sized (is_other first.is_negative second.is_negative)
    (exact_quotient (first.digits * second.digits) (places + first.raised + second.raised) (first.lowered + second.lowered))

abbrev pub product_of : ℕ → Result Factor FieldFault → Result Factor FieldFault → Result ℤ FieldFault
product_of places (Err fault) second = Err fault
product_of places (Ok first) (Err fault) = Err fault
product_of places (Ok first) (Ok second) = product_from places first second

-- what the product of two texts is, or the first fault
abbrev pub product_said : ℕ → List ℕ → List ℕ → Result ℤ FieldFault
product_said places first second = product_of places (factor_said first) (factor_said second)

abbrev pub is_times : ℕ → Bool
is_times b = b == 42

abbrev pub has_times : List ℕ → Bool
has_times text = nat_lt (position_or_len is_times text) (length text)

-- the product of two decimals round an asterisk, or a decimal alone
abbrev pub exact_product : ℕ → List ℕ → Result ℤ FieldFault
exact_product places text =
    if has_times text then product_said places (before_first is_times text) (after_first is_times text) else exact_said places text
