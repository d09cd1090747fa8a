-- The civil date of an instant in a zone, and the numbers that are counted of it.
use Rattle.std.specs.Prelude.{◌≡◌, ◌+◌, ℤ, pos, ◌+ℤ◌, ◌-ℤ◌, ◌*ℤ◌}
use Rattle.jiff_core.specs.Date.{epoch_day, weekday_of}
use Rattle.jiff_core.specs.DateTime.{civil_nanos}
use Rattle.jiff_core.specs.Timestamp.{nanos_of_seconds}
use Rattle.jiff_core.specs.declared.civil.date.Date.{Date}
use Rattle.jiff_core.specs.declared.civil.datetime.DateTime.{DateTime}
use Rattle.jiff_tz.specs.Zone.{offset_at}
use Rattle.jiff_tz.specs.declared.timezone.TimeZone.{TimeZone}
use Rattle.calendar_numbers.specs.declared.part.CalendarPart.{CalendarPart}
use Rattle.calendar_numbers.specs.declared.part.CalendarPart.TheVariants.{Day, Month, Year, Hour, Weekday}

-- months since January 1970
abbrev pub month_number : Date → ℤ
month_number date = ((date.year -ℤ pos 1970) *ℤ pos 12 +ℤ pos date.month) -ℤ pos 1

-- what is counted of a date and a time of day
abbrev pub part_number : CalendarPart → DateTime → ℤ
part_number Day shown = epoch_day shown.date
part_number Month shown = month_number shown.date
part_number Year shown = shown.date.year -ℤ pos 1970
part_number Hour shown = pos shown.time.hour
part_number Weekday shown = pos (weekday_of shown.date + 1)

-- nanoseconds since 1970-01-01 00:00 UTC
abbrev pub nanos_of : ℤ → ℤ
nanos_of milliseconds = milliseconds *ℤ pos 1000000

-- n is what is counted of the date and the time of day that clocks in the zone show at the instant
pub record IsCalendarNumber (part : CalendarPart) (zone : TimeZone) (milliseconds n : ℤ) : Type 0 where
  pub shown : DateTime
  pub clocks : civil_nanos shown ≡ nanos_of milliseconds +ℤ nanos_of_seconds (offset_at zone (nanos_of milliseconds))
  pub number : n ≡ part_number part shown
