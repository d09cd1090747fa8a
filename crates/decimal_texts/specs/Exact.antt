-- The whole number that a decimal with or without an exponent is when it is scaled.
use Rattle.std.specs.Prelude.{ℕ, ◌+◌, ◌*◌, ◌/◌, ◌%◌, ◌^◌, ◌==◌, nat_lt, Bool, not, ◌&&◌, List, ◌++◌, length, ℤ, Option, Some, None, ok_or, Result, Ok, Err, if◌then◌else◌}
use Rattle.std.specs.Str.Parse.{digits_value, starts_with_minus}
use Rattle.field_values.specs.declared.fault.FieldFault.{FieldFault}
use Rattle.field_values.specs.declared.fault.FieldFault.TheVariants.{NoNumber, MorePlaces, TooLarge}
use Rattle.field_values.specs.Decimals.{whole_digits, decimal_digits, is_decimal, signed, scaled_said}
use Rattle.decimal_texts.specs.declared.exponent.Exponent.{Exponent}
use Rattle.decimal_texts.specs.Exponents.{has_mark, mantissa, exponent_text, is_exponent, exponent_said}

-- n times ten to the power of up, divided by ten to the power of down, where nothing is left
unfoldable pub exact_quotient : ℕ → ℕ → ℕ → Option ℕ
exact_quotient n up down = if (n * 10 ^ up) % 10 ^ down == 0 then Some ((n * 10 ^ up) / 10 ^ down) else None

-- the number that digits write with a point before the decimals, times ten to the power of the places and of the
-- exponent
unfoldable pub shifted : ℕ → Exponent → List ℕ → List ℕ → Option ℕ
shifted places exponent whole decimals = exact_quotient (digits_value 10 (whole ++ decimals)) (places + exponent.raised) (length decimals + exponent.lowered)

-- a number that is there, and that 64 bits without a sign hold
abbrev pub held : Option ℕ → Result ℕ FieldFault
held None = Err MorePlaces
held (Some magnitude) = if nat_lt magnitude (2 ^ 64) then Ok magnitude else Err TooLarge

-- the number with this sign and magnitude, where there is such a magnitude and 64 bits hold it
abbrev pub sized : Bool → Option ℕ → Result ℤ FieldFault
sized is_negative None = Err MorePlaces
sized is_negative (Some magnitude) = ok_or (signed is_negative magnitude) TooLarge

-- the same of a decimal and an exponent
unfoldable pub scientific_said : ℕ → List ℕ → List ℕ → Result ℤ FieldFault
scientific_said places decimal exponent =
    if not (is_decimal decimal && is_exponent exponent) then Err NoNumber
    else sized (starts_with_minus decimal) (shifted places (exponent_said exponent) (whole_digits decimal) (decimal_digits decimal))

-- what a text with an exponent says
abbrev pub scientific_in : ℕ → List ℕ → Result ℤ FieldFault
scientific_in places text = if has_mark text then scientific_said places (mantissa text) (exponent_text text) else Err NoNumber

-- an answer, or another where that is no number
abbrev pub or_else : Result ℤ FieldFault → Result ℤ FieldFault → Result ℤ FieldFault
or_else (Err NoNumber) other = other
or_else said other = said

-- what a text says as a decimal, or else as one with an exponent
unfoldable pub exact_said : ℕ → List ℕ → Result ℤ FieldFault
exact_said places text = or_else (scaled_said places text) (scientific_in places text)
