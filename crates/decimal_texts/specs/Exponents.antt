-- What a text says as an exponent, and where it begins.
use Rattle.std.specs.Prelude.{ℕ, ◌==◌, nat_le, nat_lt, Bool, ◌&&◌, ◌||◌, List, length, drop, slice_index, if◌then◌else◌}
use Rattle.std.specs.List.{position_or_len, before_first, after_first}
use Rattle.std.specs.Str.Parse.{digits_value}
use Rattle.field_values.specs.Digits.{are_digits}
use Rattle.decimal_texts.specs.declared.exponent.Exponent.{Exponent}

-- e or E
abbrev pub is_mark : ℕ → Bool
is_mark b = (b == 101) || (b == 69)

abbrev pub has_mark : List ℕ → Bool
has_mark text = nat_lt (position_or_len is_mark text) (length text)

-- what stands before the first mark
unfoldable pub mantissa : List ℕ → List ℕ
mantissa text = before_first is_mark text

-- and behind it
unfoldable pub exponent_text : List ℕ → List ℕ
exponent_text text = after_first is_mark text

-- a plus or a hyphen
abbrev pub is_signed : List ℕ → Bool
is_signed text = nat_lt 0 (length text) && ((slice_index text 0 == 43) || (slice_index text 0 == 45))

abbrev pub without_sign : List ℕ → List ℕ
without_sign text = if is_signed text then drop 1 text else text

-- a sign or none, and 1 to 4 digits
unfoldable pub is_exponent : List ℕ → Bool
is_exponent text = are_digits (without_sign text) && nat_le (length (without_sign text)) 4

-- and the powers of ten that it multiplies by, or divides by behind a hyphen
unfoldable pub exponent_said : List ℕ → Exponent
exponent_said text =
    if slice_index text 0 == 45 then record { raised = 0; lowered = digits_value 10 (without_sign text) }
    else record { raised = digits_value 10 (without_sign text); lowered = 0 }
