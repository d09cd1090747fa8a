-- What a text says as a decimal, and the whole number that it is when it is scaled.
use Rattle.std.specs.Prelude.{ℕ, ◌-◌, ◌*◌, ◌^◌, nat_lt, nat_le, ◌==◌, Bool, not, ◌&&◌, List, ◌++◌, length, drop, ℤ, pos, neg_ℤ, Option, Some, None, ok_or, Result, Err, if◌then◌else◌}
use Rattle.std.specs.List.{position_or_len, before_first}
use Rattle.std.specs.Str.Parse.{digits_value, starts_with_minus}
use Rattle.field_values.specs.declared.fault.FieldFault.{FieldFault}
use Rattle.field_values.specs.declared.fault.FieldFault.TheVariants.{NoNumber, MorePlaces, TooLarge}
use Rattle.field_values.specs.Digits.{are_digits, is_fraction}

abbrev pub is_point : ℕ → Bool
is_point b = b == 46

abbrev pub without_minus : List ℕ → List ℕ
without_minus text = if starts_with_minus text then drop 1 text else text

-- what stands behind the sign and before the first point
unfoldable pub whole_digits : List ℕ → List ℕ
whole_digits text = before_first is_point (without_minus text)

-- the first point and what stands behind it
unfoldable pub from_point : List ℕ → List ℕ
from_point text = drop (position_or_len is_point (without_minus text)) (without_minus text)

-- what stands behind the first point, or nothing where there is none
unfoldable pub decimal_digits : List ℕ → List ℕ
decimal_digits text = drop 1 (from_point text)

-- a hyphen or none, digits, and then nothing or a point and digits
unfoldable pub is_decimal : List ℕ → Bool
is_decimal text = are_digits (whole_digits text) && is_fraction (from_point text)

-- the number that all digits write, times ten for each place that is left
unfoldable pub magnitude : ℕ → List ℕ → List ℕ → ℕ
magnitude places whole decimals = digits_value 10 (whole ++ decimals) * 10 ^ (places - length decimals)

-- the number with this sign and magnitude, where 64 bits hold it
abbrev pub signed : Bool → ℕ → Option ℤ
signed is_negative magnitude =
    if is_negative then (if nat_le magnitude (2 ^ 63) then Some (neg_ℤ (pos magnitude)) else None)
    else (if nat_lt magnitude (2 ^ 63) then Some (pos magnitude) else None)

-- the decimal times ten to the power of the places, or the first fault
unfoldable pub scaled_said : ℕ → List ℕ → Result ℤ FieldFault
scaled_said places text =
    if not (is_decimal text) then Err NoNumber
    else if nat_lt places (length (decimal_digits text)) then Err MorePlaces
    else ok_or (signed (starts_with_minus text) (magnitude places (whole_digits text) (decimal_digits text))) TooLarge
