-- The numbers that words say.
use Rattle.std.specs.Prelude.{ℕ, ◌^◌, ◌&&◌, min, nat_le, nat_lt, List, Option, Some, None, if◌then◌else◌}
use Rattle.std.specs.Str.Parse.{digits_value}
use Rattle.field_values.specs.Digits.{are_digits}
use Rattle.key_groups.specs.declared.limits.TheConstants.{MOST_SUBTASKS}

-- the number that digits write, where it has 64 bits
unfoldable pub number_said : List ℕ → Option ℕ
number_said word = if are_digits word && nat_lt (digits_value 10 word) (2 ^ 64) then Some (digits_value 10 word) else None

-- so many parts, where they are 1 to the lesser of 64 and the key groups
abbrev pub parts_of : ℕ → Option ℕ → Option ℕ
parts_of max None = None
parts_of max (Some n) = if nat_le 1 n && nat_le n (min max MOST_SUBTASKS) then Some n else None

-- how many parts a word says of a plan with so many key groups
abbrev pub parts_said : ℕ → List ℕ → Option ℕ
parts_said max word = parts_of max (number_said word)
