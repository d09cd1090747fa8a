-- The records of a file, each with what it was taken for.
use Rattle.std.specs.Prelude.{◌≡◌, ◌⊎◌, false, ℕ, List, [], ◌∷◌, Option, Some, None, Result, Ok, Err}
use Rattle.asked_fields.specs.declared.asked.AskedField.{AskedField}
use Rattle.csv.specs.Records.{fields_of}
use Rattle.import_fates.specs.Fates.{Taken, faulty, good}
use Rattle.imports.specs.Faults.{is_final}
use Rattle.imports.specs.Reading.{Rest, RecordText, next_of, width_left, GivesFields, StandsAt, IsNext, record_in}
use Rattle.imports.specs.declared.fault.RowFault.{RowFault}
use Rattle.imports.specs.declared.kinds.Records.{Records}
use Rattle.imports.specs.declared.picking.Pick.{Pick}
use Rattle.imports.specs.declared.row.RowRule.{RowRule}
use Rattle.known_records.specs.Known.{key_by}
use Rattle.import_copies.specs.Rows.{said_of, rule_in, HasRow, RefusesRow}
use Rattle.import_copies.specs.declared.row.GoodRow.{GoodRow}
use Rattle.import_copies.specs.declared.taking.Source.{Source}

-- what is read of the records of a file: the texts of these fields, which in CSV stand there; of them the numbers of a
-- row with its time at a place; and the columns whose texts may tell a record from others
pub record Asked : Type 0 where
  pub fields : List AskedField
  pub picks : List Pick
  pub rule : RowRule
  pub time : ℕ
  pub columns : Option (List ℕ)

-- a record gives no row: it has no texts, or one of them is refused, or its time is
pub record IsFaulty (asked : Asked) (width : Option ℕ) (text : RecordText) : Type 0 where
  pub fields : List (List ℕ)
  pub fault : RowFault
  pub of_record : is_final fault ≡ false
  pub why : GivesFields asked.fields asked.picks width text fields (Err fault)
      ⊎ (GivesFields asked.fields asked.picks width text fields (Ok tt) × RefusesRow asked.rule asked.time fields fault)

-- what a record is taken for, where records have so many fields: a row of its texts, known by those that tell it from
-- others, if it gives one
abbrev pub TakenFor : Asked → Option ℕ → RecordText → Taken → Type 0
TakenFor asked width text faulty = IsFaulty asked width text
TakenFor asked width text (good key row) = (fields : List (List ℕ)) × GivesFields asked.fields asked.picks width text fields (Ok tt)
    × HasRow asked.rule asked.time fields row × (key ≡ key_by asked.columns asked.rule.places.now fields)

-- the next record of a file is taken for this, and then that is left
abbrev pub TakesOne : Asked → Rest → Taken → Rest → Type 0
TakesOne asked rest taken more = (text : RecordText) × (next_of rest ≡ Some (text, more)) × TakenFor asked (width_left rest) text taken

-- the next records of a file, none left out, are taken for these, the last one first, and then that is left
abbrev pub TakesEach : Asked → Rest → List Taken → Rest → Type 0
TakesEach asked rest [] more = more ≡ rest
TakesEach asked rest (taken ∷ before) more = (mid : Rest) × TakesEach asked rest before mid × TakesOne asked mid taken more

-- all records that a file has left are taken for these
abbrev pub TakesAll : Asked → Rest → List Taken → Type 0
TakesAll asked rest records = (end : Rest) × TakesEach asked rest records end × (next_of end ≡ None)

-- so it is of a file of which what it has left is known
abbrev pub AreOfFile : {R : Type 0} → (R → Option (List ℕ)) → Asked → Records R → List Taken → Type 0
AreOfFile remaining asked rows records = (rest : Rest) → StandsAt remaining rows rest → TakesAll asked rest records

-- a record was taken, and the file stands behind it
abbrev pub TakesRecord : {R : Type 0} → (R → Option (List ℕ)) → Asked → Records R → Records R → Taken → Type 0
TakesRecord remaining asked old new taken = (rest : Rest) → StandsAt remaining old rest → (more : Rest) × TakesOne asked rest taken more × StandsAt remaining new more

-- there is no further record
abbrev pub HasNone : {R : Type 0} → (R → Option (List ℕ)) → Records R → Type 0
HasNone remaining rows = (rest : Rest) → StandsAt remaining rows rest → next_of rest ≡ None

-- the next record gave a row, or none, or there is none, or the file ends there
abbrev pub ReadsRow : {R : Type 0} → (R → Option (List ℕ)) → Source → Rest → Records R → Result (Option GoodRow) RowFault → Type 0
ReadsRow remaining source rest new (Ok None) = next_of rest ≡ None
ReadsRow remaining source rest new (Ok (Some row)) = IsNext remaining source.fields.now source.picks.now rest new (Ok tt)
    × HasRow (rule_in source) source.time (fields_of (record_in new)) (said_of row)
ReadsRow remaining source rest new (Err fault) = is_final fault ≡ false → IsNext remaining source.fields.now source.picks.now rest new (Err fault)
    ⊎ (IsNext remaining source.fields.now source.picks.now rest new (Ok tt) × RefusesRow (rule_in source) source.time (fields_of (record_in new)) fault)
