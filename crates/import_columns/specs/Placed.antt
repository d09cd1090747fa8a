-- A column with the zones in place of their names.
use Rattle.std.specs.Prelude.{◌≡◌, ℕ, ℤ, ◌==◌, nat_lt, List, length, Option, Some, None, if◌then◌else◌}
use Rattle.std.specs.List.{slice_split}
use Rattle.asked_fields.specs.declared.joint.Joint.{Joint}
use Rattle.asked_fields.specs.declared.joint.Joint.TheVariants.{Plus, Times}
use Rattle.lane_kernels.specs.declared.Cmp.{Cmp}
use Rattle.jiff_tz.specs.declared.timezone.TimeZone.{TimeZone}
use Rattle.jiff_tz.specs.declared.tzif.Tzif.{Tzif as Table}
use Rattle.calendar_numbers.specs.Named.{IsZoneOf, HasNoZone}
use Rattle.calendar_numbers.specs.declared.part.CalendarPart.{CalendarPart}
use Rattle.local_times.specs.declared.clocks.Clocks.{Clocks}
use Rattle.local_times.specs.declared.unit.TimeUnit.{TimeUnit}
use Rattle.local_times.specs.declared.unit.TimeUnit.TheVariants as unit
use Rattle.import_columns.specs.declared.kind.ValueKind.{ValueKind}
use Rattle.import_columns.specs.declared.kind.ValueKind.TheVariants as value
use Rattle.import_columns.specs.declared.kind.ColumnKind.{ColumnKind}
use Rattle.import_columns.specs.declared.kind.ColumnKind.TheVariants as column
use Rattle.import_columns.specs.declared.column.Column.{Column}
use Rattle.import_columns.specs.Columns.{Kind, Scaled, Milliseconds, Fine, Calendar, Compared, CalendarCompared, Same, Other, Name, Said}

-- the name of the zone that a column needs
abbrev pub zone_named : Kind → Option (List ℕ)
zone_named (Calendar part zone) = Some zone
zone_named (CalendarCompared part zone cmp bound) = Some zone
zone_named kind = None

-- a zone is needed, and none has its name
abbrev pub NamesNoZone : List Table → Kind → Type 0
NamesNoZone tables (Calendar part zone) = HasNoZone tables zone
NamesNoZone tables (CalendarCompared part zone cmp bound) = HasNoZone tables zone
NamesNoZone tables kind = ⊥

-- a number of the calendar is that which was said, in a zone of the name
pub record IsCalendarOf (tables : List Table) (part : CalendarPart) (zone : TimeZone) (said : Kind) : Type 0 where
  pub name : List ℕ
  pub says : said ≡ Calendar part name
  pub named : IsZoneOf tables name zone

-- the same of its comparison
pub record IsComparisonOf (tables : List Table) (part : CalendarPart) (zone : TimeZone) (cmp : Cmp) (bound : ℤ) (said : Kind) : Type 0 where
  pub name : List ℕ
  pub says : said ≡ CalendarCompared part name cmp bound
  pub named : IsZoneOf tables name zone

-- what was said of a time that is counted in a unit
abbrev pub unit_kind : TimeUnit → Kind
unit_kind unit.Milliseconds = Milliseconds
unit_kind (unit.Fine fine) = Fine fine

-- what is done with a text is what was said, by these clocks where a time has no zone
abbrev pub IsValue : List Table → Clocks → ValueKind → Kind → Type 0
IsValue tables clocks (value.Scaled places) said = said ≡ Scaled places
IsValue tables clocks (value.Time unit own) said = (own ≡ clocks) × (said ≡ unit_kind unit)
IsValue tables clocks (value.Calendar part zone own) said = (own ≡ clocks) × IsCalendarOf tables part zone said
IsValue tables clocks (value.Compared cmp bound) said = said ≡ Compared cmp bound
IsValue tables clocks (value.CalendarCompared part zone own cmp bound) said = (own ≡ clocks) × IsComparisonOf tables part zone cmp bound said
IsValue tables clocks (value.Same text) said = said ≡ Same text.now
IsValue tables clocks (value.Other text) said = said ≡ Other text.now

abbrev pub IsKind : List Table → Clocks → ColumnKind → Kind → Type 0
IsKind tables clocks (column.Value kind) said = IsValue tables clocks kind said
IsKind tables clocks column.Name said = said ≡ Name

-- how many parts a name has with a byte between
abbrev pub parts_by : ℕ → List ℕ → ℕ
parts_by mark name = length (slice_split (λ b. b == mark) name)

-- what stands between the names of fields in the name of a column: pluses for names, and one asterisk for decimals
abbrev pub joint_said : List ℕ → Kind → Option Joint
joint_said field Name = if nat_lt 1 (parts_by 43 field) then Some Plus else None
joint_said field (Scaled places) = if parts_by 42 field == 2 then Some Times else None
joint_said field kind = None

-- the column is what was said
abbrev pub IsColumn : List Table → Clocks → Column → Said → Type 0
IsColumn tables clocks read said = (read.field.now ≡ said.field) × (read.joint ≡ joint_said said.field said.kind) × IsKind tables clocks read.kind said.kind
