-- What a cell says.
use Rattle.std.specs.Prelude.{◌≡◌, ℕ, ◌+◌, ℤ, pos, Bool, true, false, List, ◌++◌, slice_get, Option, Some, None, Ok, FitsSigned}
use Rattle.std.specs.Int.{w64}
use Rattle.std.specs.List.{list_all}
use Rattle.field_values.specs.Decimals.{scaled_said}
use Rattle.field_values.specs.Instants.{milliseconds_said}
use Rattle.instant_texts.specs.Instants.{instant_said, unit_digits}
use Rattle.calendar_numbers.specs.declared.part.CalendarPart.{CalendarPart}
use Rattle.calendar_numbers.specs.declared.part.CalendarPart.TheVariants as calendar
use Rattle.import_columns.specs.declared.word.ColumnWord.{ColumnWord}
use Rattle.import_columns.specs.declared.word.WordKind.{WordKind}
use Rattle.import_columns.specs.declared.word.WordKind.TheVariants as word
use Rattle.plan_model.specs.declared.spec.Aggregate.{Aggregate}
use Rattle.plan_model.specs.declared.spec.Aggregate.TheVariants as aggregate
use Rattle.row_tables.specs.declared.kind.CellKind.{CellKind}
use Rattle.row_tables.specs.declared.kind.CellKind.TheVariants.{Number, Time, Fine, Date, Name}
use Rattle.row_tables.specs.declared.kind.DatePart.TheVariants.{Day, Month, Year}
use Rattle.row_tables.specs.Dates.{IsDate}
use Rattle.row_tables.specs.Decimals.{is_decimal_byte}

-- a decimal reads as the number that it shows, where that has 64 bits
abbrev pub IsShown : ℕ → ℤ → List ℕ → Type 0
IsShown places number text = FitsSigned w64 number → scaled_said places text ≡ Ok number

-- the text is the name of this number: the first has the number 1
abbrev pub IsNameOf : List (List ℕ) → ℤ → List ℕ → Type 0
IsNameOf names number text = (place : ℕ) × (number ≡ pos (place + 1)) × (slice_get names place ≡ Some text)

-- what a cell says, read back, is the number
abbrev pub Shows : CellKind → List (List ℕ) → ℤ → List ℕ → Type 0
Shows (Number places) names number text = IsShown places number text
Shows Time names number text = milliseconds_said text ≡ Ok number
Shows (Fine unit) names number text = instant_said (unit_digits unit) text ≡ Ok number
Shows (Date part) names number text = IsDate part number text
Shows Name names number text = IsNameOf names number text

-- a text has the decimal of a number behind it, of digits, a point and a hyphen alone
pub record HasDecimal (kind : CellKind) (number : ℤ) (before after : List ℕ) : Type 0 where
  pub places : ℕ
  pub cell : List ℕ
  pub is : kind ≡ Number places
  pub said : scaled_said places cell ≡ Ok number
  pub plain : list_all is_decimal_byte cell ≡ true
  pub text : after ≡ before ++ cell

-- it was put there, or the text is as it was
abbrev pub PutsDecimal : Bool → CellKind → ℤ → List ℕ → List ℕ → Type 0
PutsDecimal true kind number before after = HasDecimal kind number before after
PutsDecimal false kind number before after = after ≡ before

-- what a number of the calendar is shown as: hours and weekdays as they are
abbrev pub part_kind : CalendarPart → CellKind
part_kind calendar.Day = Date Day
part_kind calendar.Month = Date Month
part_kind calendar.Year = Date Year
part_kind calendar.Hour = Number 0
part_kind calendar.Weekday = Number 0

-- what the numbers of a column are shown as
abbrev pub kind_shown : WordKind → CellKind
kind_shown (word.Scaled places) = Number places
kind_shown word.Milliseconds = Time
kind_shown (word.Fine unit) = Fine unit
kind_shown (word.Calendar part zone) = part_kind part
kind_shown (word.Compared cmp number) = Number 0
kind_shown (word.CalendarCompared part zone cmp number) = Number 0
kind_shown (word.Same text) = Number 0
kind_shown (word.Other text) = Number 0
kind_shown word.Name = Name

-- what the numbers of the column at a place are shown as: whole numbers where there is none
abbrev pub kind_there : Option ColumnWord → CellKind
kind_there None = Number 0
kind_there (Some column) = kind_shown column.kind

abbrev pub kind_at : List ColumnWord → ℕ → CellKind
kind_at columns place = kind_there (slice_get columns place)

-- sums of times, dates and names are shown as they are
abbrev pub sum_kind : CellKind → CellKind
sum_kind (Number places) = Number places
sum_kind Time = Number 0
sum_kind (Fine unit) = Number 0
sum_kind (Date part) = Number 0
sum_kind Name = Number 0

-- and so are the least and the greatest of names
abbrev pub least_kind : CellKind → CellKind
least_kind (Number places) = Number places
least_kind Time = Time
least_kind (Fine unit) = Fine unit
least_kind (Date part) = Date part
least_kind Name = Number 0

-- what the numbers of an aggregate are shown as
abbrev pub aggregate_kind : List ColumnWord → Aggregate → CellKind
aggregate_kind columns aggregate.Count = Number 0
aggregate_kind columns (aggregate.Sum column) = sum_kind (kind_at columns column)
aggregate_kind columns (aggregate.Least column) = least_kind (kind_at columns column)
aggregate_kind columns (aggregate.Greatest column) = least_kind (kind_at columns column)
