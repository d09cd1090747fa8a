-- What a text says as a time with a zone, and the milliseconds from 1970-01-01 00:00 UTC to it.
use Rattle.std.specs.Prelude.{ℕ, ◌+◌, ◌-◌, ◌*◌, ◌^◌, ◌==◌, nat_lt, Bool, not, ◌&&◌, ◌||◌, List, length, take, drop, ℤ, pos, neg_ℤ, ◌+ℤ◌, ◌-ℤ◌, ◌*ℤ◌, Result, Ok, Err, if◌then◌else◌}
use Rattle.std.specs.Int.{is_in_range}
use Rattle.std.specs.List.{list_all, position_or_len}
use Rattle.std.specs.Str.Parse.{digits_value}
use Rattle.jiff_core.specs.Calendar.{days_in_month, days_from_civil}
use Rattle.field_values.specs.declared.clock.Clock.{Clock}
use Rattle.field_values.specs.declared.zone.Zone.{Zone}
use Rattle.field_values.specs.declared.fault.FieldFault.{FieldFault}
use Rattle.field_values.specs.declared.fault.FieldFault.TheVariants.{NoTime, TooFine, NoSuchTime}
use Rattle.field_values.specs.Digits.{is_fraction}
use Rattle.field_values.specs.Clocks.{is_clock, clock_said, is_zone, zone_said}

-- Z, a plus or a hyphen
abbrev pub begins_zone : ℕ → Bool
begins_zone b = (b == 90) || (b == 43) || (b == 45)

-- where the zone begins in what stands behind the seconds
unfoldable pub zone_place : List ℕ → ℕ
zone_place rest = position_or_len begins_zone rest

-- the date and the time of day, in whole seconds
unfoldable pub clock_text : List ℕ → List ℕ
clock_text text = take 19 text

-- what stands between the seconds and the zone
unfoldable pub fraction_text : List ℕ → List ℕ
fraction_text text = take (zone_place (drop 19 text)) (drop 19 text)

unfoldable pub zone_text : List ℕ → List ℕ
zone_text text = drop (zone_place (drop 19 text)) (drop 19 text)

-- YYYY-MM-DDTHH:MM:SS, nothing or a point and digits, and Z, or +hh:mm, +hhmm or +hh, where a hyphen may stand for the
-- plus
unfoldable pub is_time : List ℕ → Bool
is_time text = is_clock (clock_text text) && is_fraction (fraction_text text) && is_zone (zone_text text)

-- the digits behind the seconds
unfoldable pub fraction_digits : List ℕ → List ℕ
fraction_digits text = drop 1 (fraction_text text)

-- a day of the calendar, in a year from 1 on
unfoldable pub is_day : Clock → Bool
is_day clock = is_in_range 1 9999 clock.year && is_in_range 1 12 clock.month && is_in_range 1 (days_in_month (pos clock.year) clock.month) clock.day

-- a clock shows this time; no clock shows a leap second
unfoldable pub is_shown : Clock → Bool
is_shown clock = nat_lt clock.hour 24 && nat_lt clock.minute 60 && nat_lt clock.second 60

-- less than a day from UTC
unfoldable pub is_near : Zone → Bool
is_near zone = nat_lt zone.hours 24 && nat_lt zone.minutes 60

-- seconds since midnight
unfoldable pub second_of_day : Clock → ℕ
second_of_day clock = (clock.hour * 60 + clock.minute) * 60 + clock.second

-- the seconds that the zone's clocks are ahead of UTC
unfoldable pub seconds_ahead : Zone → ℤ
seconds_ahead zone = if zone.is_behind then neg_ℤ (pos ((zone.hours * 60 + zone.minutes) * 60)) else pos ((zone.hours * 60 + zone.minutes) * 60)

-- the seconds from 1970-01-01 00:00 UTC to what the zone's clocks show
unfoldable pub second_of : Clock → Zone → ℤ
second_of clock zone = (days_from_civil (pos clock.year) clock.month clock.day *ℤ pos 86400 +ℤ pos (second_of_day clock)) -ℤ seconds_ahead zone

-- the thousandths of a second that up to 3 digits behind the point write
unfoldable pub thousandths : List ℕ → ℕ
thousandths digits = digits_value 10 digits * 10 ^ (3 - length digits)

-- all digits behind the thousandths are 0
unfoldable pub is_coarse : List ℕ → Bool
is_coarse digits = list_all (λ b. b == 48) (drop 3 digits)

-- there is such a time
unfoldable pub is_moment : Clock → Zone → Bool
is_moment clock zone = is_day clock && is_shown clock && is_near zone

-- the milliseconds, or the first fault
unfoldable pub milliseconds_said : List ℕ → Result ℤ FieldFault
milliseconds_said text =
    if not (is_time text) then Err NoTime
    else if not (is_coarse (fraction_digits text)) then Err TooFine
    else if not (is_moment (clock_said (clock_text text)) (zone_said (zone_text text))) then Err NoSuchTime
    else Ok (second_of (clock_said (clock_text text)) (zone_said (zone_text text)) *ℤ pos 1000 +ℤ pos (thousandths (take 3 (fraction_digits text))))
