-- The instant at which clocks of a zone show a time.
use Rattle.std.specs.Prelude.{◌≡◌, ◌⊎◌, ℕ, ◌^◌, ℤ, pos, ◌*ℤ◌, ◌-ℤ◌, List, Option, Some, None, Result, Ok, Err}
use Rattle.jiff_core.specs.DateTime.{civil_nanos}
use Rattle.jiff_core.specs.Timestamp.{IsTimestampNanos}
use Rattle.jiff_core.specs.declared.Offset.{Offset}
use Rattle.jiff_core.specs.declared.civil.datetime.DateTime.{DateTime}
use Rattle.jiff_tz.specs.Ambiguous.{earlier_offset, later_offset}
use Rattle.jiff_tz.specs.Zone.{ambiguous_at}
use Rattle.jiff_tz.specs.declared.ambiguous.AmbiguousOffset.{AmbiguousOffset}
use Rattle.jiff_tz.specs.declared.ambiguous.AmbiguousOffset.TheVariants as offsets
use Rattle.jiff_tz.specs.declared.timezone.TimeZone.{TimeZone}
use Rattle.field_values.specs.declared.fault.FieldFault.{FieldFault}
use Rattle.field_values.specs.declared.fault.FieldFault.TheVariants.{NoTime, NoSuchTime}
use Rattle.instant_texts.specs.Instants.{held}
use Rattle.local_times.specs.Units.{digits_of, nanos_in, zoned_said, civil_said}
use Rattle.local_times.specs.declared.clocks.Clocks.{Clocks}
use Rattle.local_times.specs.declared.clocks.Clocks.TheVariants.{Zoned, Local}
use Rattle.local_times.specs.declared.clocks.Fold.{Fold}
use Rattle.local_times.specs.declared.clocks.Fold.TheVariants.{First, Second}
use Rattle.local_times.specs.declared.unit.TimeUnit.{TimeUnit}

-- the offset of a time that has these: its own where clocks show it once, and else that of the earlier or the later
-- instant, if it is said which is meant
abbrev pub chosen_offset : Option Fold → AmbiguousOffset → Option Offset
chosen_offset fold (offsets.Unambiguous offset) = Some offset
chosen_offset None (offsets.Gap before after) = None
chosen_offset None (offsets.Fold before after) = None
chosen_offset (Some First) (offsets.Gap before after) = Some (earlier_offset (offsets.Gap before after))
chosen_offset (Some First) (offsets.Fold before after) = Some (earlier_offset (offsets.Fold before after))
chosen_offset (Some Second) (offsets.Gap before after) = Some (later_offset (offsets.Gap before after))
chosen_offset (Some Second) (offsets.Fold before after) = Some (later_offset (offsets.Fold before after))

-- what a number of a unit is without an offset, if it is clear which
abbrev pub at_offset : TimeUnit → ℤ → Option Offset → Result ℤ FieldFault
at_offset unit number (Some offset) = held (number -ℤ offset.seconds *ℤ pos (10 ^ digits_of unit))
at_offset unit number None = Err NoSuchTime

-- the instant at which clocks of the zone show what is so many units as if they showed UTC, by the offset that they
-- have then
pub record IsShown (zone : TimeZone) (fold : Option Fold) (unit : TimeUnit) (number : ℤ) (answer : Result ℤ FieldFault) : Type 0 where
  pub shown : DateTime
  pub clocks : civil_nanos shown ≡ nanos_in unit number
  pub instant : answer ≡ at_offset unit number (chosen_offset fold (ambiguous_at zone shown))

-- so it is, but of times in the last day of the year 9999
abbrev pub IsLocal : TimeZone → Option Fold → TimeUnit → ℤ → Result ℤ FieldFault → Type 0
IsLocal zone fold unit number answer = IsShown zone fold unit number answer ⊎ ((answer ≡ Err NoSuchTime) × (¬ IsTimestampNanos (nanos_in unit number)))

-- the instant of a time without a zone, or what is wrong with it
abbrev pub IsCivil : TimeZone → Option Fold → TimeUnit → Result ℤ FieldFault → Result ℤ FieldFault → Type 0
IsCivil zone fold unit (Ok number) answer = IsLocal zone fold unit number answer
IsCivil zone fold unit (Err fault) answer = answer ≡ Err fault

-- a text that is no time with a zone is one without
abbrev pub IsUnzoned : TimeZone → Option Fold → TimeUnit → List ℕ → Result ℤ FieldFault → Result ℤ FieldFault → Type 0
IsUnzoned zone fold unit text (Err NoTime) answer = IsCivil zone fold unit (civil_said unit text) answer
IsUnzoned zone fold unit text (Err fault) answer = answer ≡ Err fault
IsUnzoned zone fold unit text (Ok number) answer = answer ≡ Ok number

-- the number that a text is in a unit: by the zone in it or, where it has none, by clocks
abbrev pub IsTimeOf : Clocks → TimeUnit → List ℕ → Result ℤ FieldFault → Type 0
IsTimeOf Zoned unit text answer = answer ≡ zoned_said unit text
IsTimeOf (Local zone fold) unit text answer = IsUnzoned zone fold unit text (zoned_said unit text) answer
