-- The records of a file, one after the other.
use Rattle.std.specs.Prelude.{◌≡◌, ◌≢◌, ◌==◌, ◌||◌, codes, if◌then◌else◌, ℕ, List, [], length, Bool, true, false, Option, Some, None, option_map, Result, Ok, Err}
use Rattle.std.specs.List.{ends_with}
use Rattle.asked_fields.specs.declared.asked.AskedField.{AskedField}
use Rattle.csv.specs.Machine.{next_record}
use Rattle.csv.specs.Reading.{Ready, reader_config, reader_state, reader_trim, source_of, strip_bom}
use Rattle.csv.specs.Records.{Row, fields_of}
use Rattle.csv.specs.declared.parser.State.{State}
use Rattle.csv.specs.declared.parser.State.TheVariants.{StartRecord}
use Rattle.csv.specs.declared.reader.Reader.{Reader}
use Rattle.csv.specs.declared.reader.Trim.TheVariants as trim
use Rattle.object_lines.specs.Lines.{next_line, lines_left, lines_said}
use Rattle.object_lines.specs.Records.{IsRead}
use Rattle.object_lines.specs.declared.fault.LineFault.TheVariants as line
use Rattle.decimal_texts.specs.declared.point.DecimalPoint.{DecimalPoint}
use Rattle.decimal_texts.specs.declared.point.DecimalPoint.TheVariants.{Point}
use Rattle.imports.specs.Faults.{is_final}
use Rattle.imports.specs.Picks.{picked}
use Rattle.imports.specs.declared.picking.Pick.{Pick}
use Rattle.imports.specs.Separators.{separated}
use Rattle.imports.specs.declared.fault.RowFault.{RowFault}
use Rattle.imports.specs.declared.fault.RowFault.TheVariants.{Width, NoObject, Member}
use Rattle.imports.specs.declared.kinds.Records.{Records}
use Rattle.imports.specs.declared.kinds.Records.TheVariants.{Rows, Objects}
use Rattle.imports.specs.declared.reader.CsvReader.{CsvReader}
use Rattle.imports.specs.declared.records.CsvRows.{CsvRows}

-- a record as it stands in a file: the fields of a row of CSV, or a line of NDJSON
pub data RecordText : Type 0 where
  Fields : List (List ℕ) → RecordText
  Line : List ℕ → RecordText

-- what a file has left: of CSV the separator, how many fields a record has, if one was read, the state of the reader
-- and the text; of NDJSON the lines
pub data Rest : Type 0 where
  Csv : ℕ → Option ℕ → State → List ℕ → Rest
  Lines : List (List ℕ) → Rest

-- how many fields a record has, once one was read
abbrev pub width_with : Option ℕ → ℕ → Option ℕ
width_with None count = Some count
width_with (Some width) count = Some width

abbrev pub width_left : Rest → Option ℕ
width_left (Csv separator width state text) = width
width_left (Lines lines) = None

-- the next record, and what is left behind it
abbrev pub next_of : Rest → Option (RecordText × Rest)
next_of (Csv separator width state text) = option_map (λ read. (Fields read.0, Csv separator (width_with width (length read.0)) read.1 read.2)) (next_record (separated separator) state [] [] text)
next_of (Lines lines) = option_map (λ read. (Line read.0, Lines read.1)) (next_line lines)

abbrev pub reader_in : {R : Type 0} → CsvReader R → Reader R
reader_in reader = reader.reader.value

-- a reader reads on with a separator in a state, and this text is left
pub record StandsIn {R : Type 0} (remaining : R → Option (List ℕ)) (separator : ℕ) (reader : CsvReader R) (state : State) (text : List ℕ) : Type 0 where
  pub ready : Ready (reader_in reader)
  pub trim : reader_trim (reader_in reader) ≡ trim.None
  pub config : reader_config (reader_in reader) ≡ separated separator
  pub state_is : reader_state (reader_in reader) ≡ state
  pub source : source_of remaining (reader_in reader) ≡ Some text

-- the next record was read, or there is none
abbrev pub ReadsRow : {R : Type 0} → (R → Option (List ℕ)) → ℕ → State → List ℕ → CsvReader R → Bool → List (List ℕ) → Type 0
ReadsRow remaining separator state text new false fields = next_record (separated separator) state [] [] text ≡ None
ReadsRow remaining separator state text new true fields = (later : State) × (rest : List ℕ) × (next_record (separated separator) state [] [] text ≡ Some (fields, later, rest)) × StandsIn remaining separator new later rest

-- the records have this left
abbrev pub RowsStandAt : {R : Type 0} → (R → Option (List ℕ)) → CsvRows R → Rest → Type 0
RowsStandAt remaining rows (Csv separator width state text) = (rows.width ≡ width) × StandsIn (λ watched. remaining watched.reader) separator rows.reader state text
RowsStandAt remaining rows (Lines lines) = ⊥

abbrev pub StandsAt : {R : Type 0} → (R → Option (List ℕ)) → Records R → Rest → Type 0
StandsAt remaining (Rows rows) rest = RowsStandAt remaining rows rest
StandsAt remaining (Objects objects) (Csv separator width state text) = ⊥
StandsAt remaining (Objects objects) (Lines lines) = lines_left remaining objects ≡ Some lines

-- the record of the texts of columns, or the row itself
abbrev pub taken_in : {R : Type 0} → CsvRows R → Row
taken_in rows = if rows.is_picked then rows.picked else rows.record

abbrev pub record_in : {R : Type 0} → Records R → Row
record_in (Rows rows) = taken_in rows
record_in (Objects objects) = objects.record

-- what stands for the point of decimals
abbrev pub point_in : {R : Type 0} → Records R → DecimalPoint → DecimalPoint
point_in (Rows rows) mark = mark
point_in (Objects objects) mark = Point

abbrev pub FitsWidth : Option ℕ → ℕ → Type 0
FitsWidth None count = Unit {0}
FitsWidth (Some width) count = count ≡ width

-- the width of a record was looked at, and nothing else changes
abbrev pub ChecksWidth : {R : Type 0} → CsvRows R → CsvRows R → Result Bool RowFault → Type 0
ChecksWidth old new (Ok is_there) = (is_there ≡ true) × (new ≡ record old { width = width_with old.width (length (fields_of old.record)) }) × FitsWidth old.width (length (fields_of old.record))
ChecksWidth old new (Err (Width count wanted)) = (new ≡ old) × (count ≡ length (fields_of old.record)) × (old.width ≡ Some wanted) × (count ≢ wanted)
ChecksWidth old new (Err fault) = ⊥

-- a row of CSV has another number of fields than those before
abbrev pub HasOtherWidth : Option ℕ → List (List ℕ) → List (List ℕ) → RowFault → Type 0
HasOtherWidth width said fields (Width count wanted) = (fields ≡ said) × (count ≡ length said) × (width ≡ Some wanted) × (count ≢ wanted)
HasOtherWidth width said fields fault = ⊥

-- a line of NDJSON has no text for each field that is asked for
abbrev pub HasNoTexts : List AskedField → List ℕ → List (List ℕ) → RowFault → Type 0
HasNoTexts asked said fields NoObject = IsRead asked fields said (Err line.NoObject)
HasNoTexts asked said fields (Member column why) = IsRead asked fields said (Err (line.Member column why))
HasNoTexts asked said fields fault = ⊥

-- what comes of a record, where records have so many fields: its fields or the texts that are picked out of them, or
-- those of the members that are asked for; or why it has none
abbrev pub GivesFields : List AskedField → List Pick → Option ℕ → RecordText → List (List ℕ) → Result (Unit {0}) RowFault → Type 0
GivesFields asked picks width (Fields said) fields (Ok done) = (fields ≡ picked picks said) × FitsWidth width (length said)
GivesFields asked picks width (Fields said) fields (Err fault) = HasOtherWidth width said fields fault
GivesFields asked picks width (Line said) fields (Ok done) = IsRead asked fields said (Ok tt)
GivesFields asked picks width (Line said) fields (Err fault) = HasNoTexts asked said fields fault

-- the next record was read, and this came of it
pub record IsNext {R : Type 0} (remaining : R → Option (List ℕ)) (asked : List AskedField) (picks : List Pick) (rest : Rest) (new : Records R) (answer : Result (Unit {0}) RowFault) : Type 0 where
  pub text : RecordText
  pub more : Rest
  pub next : next_of rest ≡ Some (text, more)
  pub stands : StandsAt remaining new more
  pub gives : GivesFields asked picks (width_left rest) text (fields_of (record_in new)) answer

-- so it is, or there is none, or the fault is of more than a record
abbrev pub Advances : {R : Type 0} → (R → Option (List ℕ)) → List AskedField → List Pick → Rest → Records R → Result Bool RowFault → Type 0
Advances remaining asked picks rest new (Ok false) = next_of rest ≡ None
Advances remaining asked picks rest new (Ok true) = IsNext remaining asked picks rest new (Ok tt)
Advances remaining asked picks rest new (Err fault) = is_final fault ≡ false → IsNext remaining asked picks rest new (Err fault)

-- the same of a row of CSV
abbrev pub AdvancesRow : {R : Type 0} → (R → Option (List ℕ)) → List AskedField → List Pick → Rest → CsvRows R → Result Bool RowFault → Type 0
AdvancesRow remaining asked picks rest new answer = Advances remaining asked picks rest (Rows new) answer

-- the name of a file says that it is NDJSON
abbrev pub is_ndjson : List ℕ → Bool
is_ndjson path = ends_with ◌==◌ path (codes ".ndjson") || ends_with ◌==◌ path (codes ".jsonl")

-- what a whole file has left, by its name, the separator of CSV and its bytes
abbrev pub beginning : List ℕ → ℕ → List ℕ → Rest
beginning path separator text = if is_ndjson path then Lines (lines_said 0 text) else Csv separator None StartRecord (strip_bom text)

-- a file is behind its header, if it is CSV
abbrev pub IsBegun : Rest → Rest → Type 0
IsBegun (Csv separator width state text) more = (header : RecordText) × (next_of (Csv separator width state text) ≡ Some (header, more))
IsBegun (Lines lines) more = more ≡ Lines lines
