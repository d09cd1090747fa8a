-- Days, months and years as texts.
use Rattle.std.specs.Prelude.{◌≡◌, ℕ, ℤ, pos, ◌-ℤ◌, ◌*ℤ◌, List, ◌++◌, Ok, codes}
use Rattle.jiff_core.specs.Date.{epoch_day}
use Rattle.jiff_core.specs.declared.civil.date.Date.{Date}
use Rattle.calendar_numbers.specs.Calendars.{month_number}
use Rattle.field_values.specs.Instants.{milliseconds_said}
use Rattle.row_tables.specs.declared.kind.DatePart.{DatePart}
use Rattle.row_tables.specs.declared.kind.DatePart.TheVariants.{Day, Month, Year}

-- the number that a part of the calendar is on a day
abbrev pub date_number : DatePart → Date → ℤ
date_number Day date = epoch_day date
date_number Month date = month_number date
date_number Year date = date.year -ℤ pos 1970

-- the milliseconds from 1970 to its beginning in UTC
abbrev pub date_milliseconds : Date → ℤ
date_milliseconds date = epoch_day date *ℤ pos 86400000

-- what has to stand behind a day, a month or a year for its first moment in UTC
abbrev pub first_moment : DatePart → List ℕ
first_moment Day = codes "T00:00:00Z"
first_moment Month = codes "-01T00:00:00Z"
first_moment Year = codes "-01-01T00:00:00Z"

-- the first moment that the text says is that of a day with this number
pub record IsDate (part : DatePart) (number : ℤ) (text : List ℕ) : Type 0 where
  pub date : Date
  pub counted : number ≡ date_number part date
  pub said : milliseconds_said (text ++ first_moment part) ≡ Ok (date_milliseconds date)
