-- The whole number that a time with a zone is, counted in a unit from 1970-01-01 00:00 UTC on.
use Rattle.std.specs.Prelude.{ℕ, ◌-◌, ◌*◌, ◌^◌, ◌==◌, Bool, not, ◌&&◌, List, length, take, drop, ℤ, pos, neg_ℤ, ◌+ℤ◌, ◌*ℤ◌, int_le, int_lt, Result, Ok, Err, if◌then◌else◌}
use Rattle.std.specs.List.{list_all}
use Rattle.std.specs.Str.Parse.{digits_value}
use Rattle.field_values.specs.declared.fault.FieldFault.{FieldFault}
use Rattle.field_values.specs.declared.fault.FieldFault.TheVariants.{NoTime, TooFine, NoSuchTime, TooLarge}
use Rattle.field_values.specs.Clocks.{is_clock, clock_said, is_zone, zone_said}
use Rattle.field_values.specs.Instants.{clock_text, zone_text, is_time, is_moment, second_of, fraction_digits}
use Rattle.instant_texts.specs.declared.unit.FineUnit.{FineUnit}
use Rattle.instant_texts.specs.declared.unit.FineUnit.TheVariants.{Microseconds, Nanoseconds}

-- the digits behind the point of a second
abbrev pub unit_digits : FineUnit → ℕ
unit_digits Microseconds = 6
unit_digits Nanoseconds = 9

-- all digits behind the first so many are 0
unfoldable pub is_coarse : ℕ → List ℕ → Bool
is_coarse count digits = list_all (λ b. b == 48) (drop count digits)

-- the fraction of a second that the first so many digits behind the point write
unfoldable pub fraction_units : ℕ → List ℕ → ℕ
fraction_units count digits = digits_value 10 (take count digits) * 10 ^ (count - length (take count digits))

-- a number of 64 bits
abbrev pub held : ℤ → Result ℤ FieldFault
held n = if int_le (neg_ℤ (pos (2 ^ 63))) n && int_lt n (pos (2 ^ 63)) then Ok n else Err TooLarge

-- the seconds to what a clock shows at a zone, in thousandths, or the first fault of both texts
unfoldable pub whole_said : List ℕ → List ℕ → Result ℤ FieldFault
whole_said clock zone =
    if not (is_clock clock && is_zone zone) then Err NoTime
    else if not (is_moment (clock_said clock) (zone_said zone)) then Err NoSuchTime
    else Ok (second_of (clock_said clock) (zone_said zone) *ℤ pos 1000)

-- the units of a second and its fraction, or the first fault
unfoldable pub instant_from : ℕ → List ℕ → Result ℤ FieldFault → Result ℤ FieldFault
instant_from count fraction (Err NoTime) = Err NoTime
instant_from count fraction (Err fault) = if is_coarse count fraction then Err fault else Err TooFine
instant_from count fraction (Ok thousandths) =
    if is_coarse count fraction then held (thousandths *ℤ pos (10 ^ (count - 3)) +ℤ pos (fraction_units count fraction)) else Err TooFine

-- the units, or the first fault
unfoldable pub instant_said : ℕ → List ℕ → Result ℤ FieldFault
instant_said count text =
    if not (is_time text) then Err NoTime
    else if not (is_coarse count (fraction_digits text)) then Err TooFine
    else if not (is_moment (clock_said (clock_text text)) (zone_said (zone_text text))) then Err NoSuchTime
    else held (second_of (clock_said (clock_text text)) (zone_said (zone_text text)) *ℤ pos (10 ^ count) +ℤ pos (fraction_units count (fraction_digits text)))
