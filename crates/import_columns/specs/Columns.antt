-- What a word says as a column.
use Rattle.std.specs.Prelude.{◌≡◌, ℕ, ℤ, ◌==◌, nat_lt, nat_le, Bool, ◌&&◌, List, length, codes, bytes_eq, Option, Some, None, Result, Ok, Err, if◌then◌else◌}
use Rattle.std.specs.List.{position_or_len, before_first, after_first}
use Rattle.std.specs.Str.Parse.{digits_value}
use Rattle.lane_kernels.specs.declared.Cmp.{Cmp}
use Rattle.lane_kernels.specs.declared.Cmp.TheVariants.{Eq, Ne, Lt, Le, Gt, Ge}
use Rattle.field_values.specs.declared.fault.FieldFault.{FieldFault}
use Rattle.field_values.specs.declared.fault.FieldFault.TheVariants.{NoNumber}
use Rattle.field_values.specs.declared.places.TheConstants.{MOST_PLACES}
use Rattle.field_values.specs.Digits.{are_digits}
use Rattle.field_values.specs.Decimals.{scaled_said}
use Rattle.import_columns.specs.declared.fault.ColumnFault.{ColumnFault}
use Rattle.import_columns.specs.declared.fault.ColumnFault.TheVariants.{Form, Places, Bound}
use Rattle.instant_texts.specs.declared.unit.FineUnit.{FineUnit}
use Rattle.instant_texts.specs.declared.unit.FineUnit.TheVariants.{Microseconds, Nanoseconds}
use Rattle.calendar_numbers.specs.declared.part.CalendarPart.{CalendarPart}
use Rattle.calendar_numbers.specs.declared.part.CalendarPart.TheVariants.{Day, Month, Year, Hour, Weekday}
use Rattle.import_columns.specs.declared.word.WordKind.{WordKind}
use Rattle.import_columns.specs.declared.word.WordKind.TheVariants as word
use Rattle.import_columns.specs.declared.word.ColumnWord.{ColumnWord}

-- how a text becomes a number, without where the words lie in memory, and with the name of a zone in place of the zone
pub data Kind : Type 0 where
  Scaled : ℕ → Kind
  Milliseconds : Kind
  Fine : FineUnit → Kind
  Calendar : CalendarPart → List ℕ → Kind
  Compared : Cmp → ℤ → Kind
  CalendarCompared : CalendarPart → List ℕ → Cmp → ℤ → Kind
  Same : List ℕ → Kind
  Other : List ℕ → Kind
  Name : Kind

abbrev pub view_kind : WordKind → Kind
view_kind (word.Scaled places) = Scaled places
view_kind word.Milliseconds = Milliseconds
view_kind (word.Fine unit) = Fine unit
view_kind (word.Calendar part zone) = Calendar part zone.now
view_kind (word.Compared cmp bound) = Compared cmp bound
view_kind (word.CalendarCompared part zone cmp bound) = CalendarCompared part zone.now cmp bound
view_kind (word.Same text) = Same text.now
view_kind (word.Other text) = Other text.now
view_kind word.Name = Name

-- a field and what is done with its text
pub record Said : Type 0 where
  pub field : List ℕ
  pub kind : Kind

abbrev pub view_column : ColumnWord → Said
view_column c = record { field = c.field.now; kind = view_kind c.kind }

-- what a function answered, seen by view, is what was said
abbrev pub GivesColumn : {X Y : Type 0} → (X → Y) → Result X ColumnFault → Result Y ColumnFault → Type 0
GivesColumn view (Ok x) said = said ≡ Ok (view x)
GivesColumn view (Err fault) said = said ≡ Err fault

abbrev pub is_colon : ℕ → Bool
is_colon b = b == 58

abbrev pub has_colon : List ℕ → Bool
has_colon text = nat_lt (position_or_len is_colon text) (length text)

abbrev pub comparison_said : List ℕ → Option Cmp
comparison_said name =
    if bytes_eq name (codes "eq") then Some Eq else if bytes_eq name (codes "ne") then Some Ne
    else if bytes_eq name (codes "lt") then Some Lt else if bytes_eq name (codes "le") then Some Le
    else if bytes_eq name (codes "gt") then Some Gt else if bytes_eq name (codes "ge") then Some Ge else None

-- a comparison with a text: it is this, or it is not
abbrev pub text_said : Cmp → List ℕ → Result Kind ColumnFault
text_said Eq text = Ok (Same text)
text_said Ne text = Ok (Other text)
text_said cmp text = Err Form

-- a comparison with a whole number, where the text is a decimal, and else with the text
abbrev pub bound_from : Cmp → List ℕ → Result ℤ FieldFault → Result Kind ColumnFault
bound_from cmp text (Ok bound) = Ok (Compared cmp bound)
bound_from cmp text (Err NoNumber) = text_said cmp text
bound_from cmp text (Err fault) = Err (Bound fault)

abbrev pub compared_from : Option Cmp → List ℕ → Result Kind ColumnFault
compared_from None text = Err Form
compared_from (Some cmp) text = if has_colon text then Err Form else bound_from cmp text (scaled_said 0 text)

-- 1 or 2 digits say how many decimal places are kept
unfoldable pub places_said : List ℕ → Result Kind ColumnFault
places_said digits =
    if are_digits digits && nat_le (length digits) 2
    then (if nat_le (digits_value 10 digits) MOST_PLACES then Ok (Scaled (digits_value 10 digits)) else Err Places)
    else Err Form

abbrev pub word_said : List ℕ → Result Kind ColumnFault
word_said how =
    if bytes_eq how (codes "ms") then Ok Milliseconds
    else if bytes_eq how (codes "us") then Ok (Fine Microseconds) else if bytes_eq how (codes "ns") then Ok (Fine Nanoseconds)
    else if bytes_eq how (codes "name") then Ok Name else places_said how

abbrev pub part_said : List ℕ → Option CalendarPart
part_said name =
    if bytes_eq name (codes "day") then Some Day else if bytes_eq name (codes "month") then Some Month
    else if bytes_eq name (codes "year") then Some Year else if bytes_eq name (codes "hour") then Some Hour
    else if bytes_eq name (codes "weekday") then Some Weekday else None

-- a comparison of a number of the calendar with a whole number
abbrev pub calendar_bound_from : CalendarPart → List ℕ → Cmp → Result ℤ FieldFault → Result Kind ColumnFault
calendar_bound_from part zone cmp (Ok bound) = Ok (CalendarCompared part zone cmp bound)
calendar_bound_from part zone cmp (Err NoNumber) = Err Form
calendar_bound_from part zone cmp (Err fault) = Err (Bound fault)

abbrev pub calendar_bound : CalendarPart → List ℕ → Option Cmp → Result ℤ FieldFault → Result Kind ColumnFault
calendar_bound part zone None bound = Err Form
calendar_bound part zone (Some cmp) bound = calendar_bound_from part zone cmp bound

-- what stands behind the zone: a comparison, a colon and its bound
abbrev pub calendar_compared : CalendarPart → List ℕ → List ℕ → Result Kind ColumnFault
calendar_compared part zone how =
    if has_colon how then calendar_bound part zone (comparison_said (before_first is_colon how)) (scaled_said 0 (after_first is_colon how)) else Err Form

-- a zone alone, or one with a comparison behind a colon
abbrev pub calendar_said : CalendarPart → List ℕ → Result Kind ColumnFault
calendar_said part rest =
    if has_colon rest then calendar_compared part (before_first is_colon rest) (after_first is_colon rest) else Ok (Calendar part rest)

-- what stands before and behind a colon: a part of the calendar and a zone, or else a comparison and its bound
abbrev pub parted_from : Option CalendarPart → List ℕ → List ℕ → Result Kind ColumnFault
parted_from (Some part) name rest = calendar_said part rest
parted_from None name rest = compared_from (comparison_said name) rest

-- what stands behind the field's name and a colon: words with colons between, or one word
unfoldable pub how_said : List ℕ → Result Kind ColumnFault
how_said how =
    if has_colon how then parted_from (part_said (before_first is_colon how)) (before_first is_colon how) (after_first is_colon how) else word_said how

abbrev pub of_field : List ℕ → Result Kind ColumnFault → Result Said ColumnFault
of_field field (Ok kind) = Ok (record { field = field; kind = kind })
of_field field (Err fault) = Err fault

-- the field's name, up to the first colon, and what follows it, or a whole number
unfoldable pub column_said : List ℕ → Result Said ColumnFault
column_said word =
    if has_colon word then of_field (before_first is_colon word) (how_said (after_first is_colon word))
    else Ok (record { field = word; kind = Scaled 0 })
