-- The number that a text is.
use Rattle.std.specs.Prelude.{◌≡◌, ℤ, pos, Bool, true, false, not, bytes_eq, List, ℕ, Option, Some, Result, Ok, Err, if◌then◌else◌}
use Rattle.asked_fields.specs.declared.joint.Joint.{Joint}
use Rattle.asked_fields.specs.declared.joint.Joint.TheVariants.{Times}
use Rattle.lane_kernels.specs.declared.Cmp.{Cmp}
use Rattle.lane_kernels.specs.Compare.{holds}
use Rattle.jiff_core.specs.Timestamp.{IsTimestampNanos}
use Rattle.jiff_tz.specs.declared.timezone.TimeZone.{TimeZone}
use Rattle.field_values.specs.declared.fault.FieldFault.{FieldFault}
use Rattle.field_values.specs.declared.fault.FieldFault.TheVariants.{NoSuchTime}
use Rattle.decimal_texts.specs.Exact.{exact_said}
use Rattle.decimal_texts.specs.Points.{pointed}
use Rattle.decimal_texts.specs.Products.{exact_product}
use Rattle.decimal_texts.specs.declared.point.DecimalPoint.{DecimalPoint}
use Rattle.local_times.specs.Local.{IsTimeOf}
use Rattle.local_times.specs.declared.clocks.Clocks.{Clocks}
use Rattle.local_times.specs.declared.unit.TimeUnit.TheVariants.{Milliseconds}
use Rattle.calendar_numbers.specs.Calendars.{nanos_of, IsCalendarNumber}
use Rattle.calendar_numbers.specs.declared.part.CalendarPart.{CalendarPart}
use Rattle.import_columns.specs.declared.kind.ValueKind.{ValueKind}
use Rattle.import_columns.specs.declared.kind.ValueKind.TheVariants.{Scaled, Time, Calendar, Compared, CalendarCompared, Same, Other}

-- 1 for what holds, and else 0
abbrev pub bit : Bool → ℤ
bit b = if b then pos 1 else pos 0

abbrev pub compared_value : Cmp → ℤ → Result ℤ FieldFault → Result ℤ FieldFault
compared_value cmp bound (Ok number) = Ok (bit (holds cmp number bound))
compared_value cmp bound (Err fault) = Err fault

-- the number of the calendar at an instant, where it has a civil date in each zone
abbrev pub IsPart : CalendarPart → TimeZone → ℤ → Result ℤ FieldFault → Type 0
IsPart part zone milliseconds (Ok number) = IsCalendarNumber part zone milliseconds number
IsPart part zone milliseconds (Err fault) = (fault ≡ NoSuchTime) × (¬ IsTimestampNanos (nanos_of milliseconds))

-- the same of an instant that a text says, or the first fault of the text
abbrev pub IsPartAt : CalendarPart → TimeZone → Result ℤ FieldFault → Result ℤ FieldFault → Type 0
IsPartAt part zone (Ok milliseconds) answer = IsPart part zone milliseconds answer
IsPartAt part zone (Err fault) answer = answer ≡ Err fault

pub record IsPartOf (part : CalendarPart) (zone : TimeZone) (clocks : Clocks) (text : List ℕ) (answer : Result ℤ FieldFault) : Type 0 where
  pub instant : Result ℤ FieldFault
  pub said : IsTimeOf clocks Milliseconds text instant
  pub counted : IsPartAt part zone instant answer

-- its comparison with a bound
pub record IsComparedPart (part : CalendarPart) (zone : TimeZone) (clocks : Clocks) (cmp : Cmp) (bound : ℤ) (text : List ℕ) (answer : Result ℤ FieldFault) : Type 0 where
  pub number : Result ℤ FieldFault
  pub counted : IsPartOf part zone clocks text number
  pub compared : answer ≡ compared_value cmp bound number

-- the number that the text is, or the first fault
abbrev pub IsValueOf : ValueKind → List ℕ → Result ℤ FieldFault → Type 0
IsValueOf (Scaled places) text answer = answer ≡ exact_said places text
IsValueOf (Time unit clocks) text answer = IsTimeOf clocks unit text answer
IsValueOf (Calendar part zone clocks) text answer = IsPartOf part zone clocks text answer
IsValueOf (Compared cmp bound) text answer = answer ≡ compared_value cmp bound (exact_said 0 text)
IsValueOf (CalendarCompared part zone clocks cmp bound) text answer = IsComparedPart part zone clocks cmp bound text answer
IsValueOf (Same wanted) text answer = answer ≡ Ok (bit (bytes_eq text wanted.now))
IsValueOf (Other wanted) text answer = answer ≡ Ok (bit (not (bytes_eq text wanted.now)))

-- the same of a column, whose decimal may be a product
abbrev pub IsNumberOf : Option Joint → ValueKind → List ℕ → Result ℤ FieldFault → Type 0
IsNumberOf (Some Times) (Scaled places) text answer = answer ≡ exact_product places text
IsNumberOf joint kind text answer = IsValueOf kind text answer

-- the text of a field is a decimal
abbrev pub has_point : ValueKind → Bool
has_point (Scaled places) = true
has_point (Compared cmp bound) = true
has_point kind = false

-- the text of a field as its column reads it: a decimal by what stands for its point
abbrev pub read_text : DecimalPoint → ValueKind → List ℕ → List ℕ
read_text point kind text = if has_point kind then pointed point text else text
