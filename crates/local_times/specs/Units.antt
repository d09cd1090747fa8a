-- The number that a text is in a unit.
use Rattle.std.specs.Prelude.{ℕ, ◌-◌, ◌^◌, nat_lt, List, [], ◌∷◌, ◌++◌, length, ℤ, pos, ◌*ℤ◌, Result, Err, if◌then◌else◌}
use Rattle.field_values.specs.declared.fault.FieldFault.{FieldFault}
use Rattle.field_values.specs.declared.fault.FieldFault.TheVariants.{NoTime}
use Rattle.field_values.specs.Instants.{milliseconds_said}
use Rattle.instant_texts.specs.Instants.{unit_digits, instant_said}
use Rattle.local_times.specs.declared.unit.TimeUnit.{TimeUnit}
use Rattle.local_times.specs.declared.unit.TimeUnit.TheVariants.{Milliseconds, Fine}

-- how many digits behind the point of a second a unit has
abbrev pub digits_of : TimeUnit → ℕ
digits_of Milliseconds = 3
digits_of (Fine unit) = unit_digits unit

-- so many of it, as nanoseconds
abbrev pub nanos_in : TimeUnit → ℤ → ℤ
nanos_in unit number = number *ℤ pos (10 ^ (9 - digits_of unit))

-- with a zone
abbrev pub zoned_said : TimeUnit → List ℕ → Result ℤ FieldFault
zoned_said Milliseconds text = milliseconds_said text
zoned_said (Fine unit) text = instant_said (unit_digits unit) text

-- without one, as if clocks showed UTC; a text of more than 63 bytes is none
abbrev pub civil_said : TimeUnit → List ℕ → Result ℤ FieldFault
civil_said unit text = if nat_lt 63 (length text) then Err NoTime else zoned_said unit (text ++ 90 ∷ [])
