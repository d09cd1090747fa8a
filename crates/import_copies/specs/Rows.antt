-- The row of a record.
use Rattle.std.specs.Prelude.{◌≡◌, ◌⊎◌, ℕ, ℤ, true, false, List, [], ◌∷◌, get_or, Option, Result, Ok, Err}
use Rattle.entry_texts.specs.Partitions.{Row}
use Rattle.import_entries.specs.declared.place.PlaceFault.TheVariants.{Range}
use Rattle.import_fates.specs.Fates.{Taken, good}
use Rattle.imports.specs.Rows.{FillsRow}
use Rattle.imports.specs.declared.fault.RowFault.{RowFault}
use Rattle.imports.specs.declared.fault.RowFault.TheVariants.{Place}
use Rattle.imports.specs.declared.row.RowRule.{RowRule}
use Rattle.plan_model.specs.Windows.{is_time}
use Rattle.known_records.specs.Known.{key_in}
use Rattle.known_records.specs.declared.known.KnownRecords.{KnownRecords}
use Rattle.import_copies.specs.declared.row.GoodRow.{GoodRow}
use Rattle.import_copies.specs.declared.taking.Source.{Source}

abbrev pub said_of : GoodRow → Row
said_of row = record { time = row.time; first = row.first; others = row.others.now }

-- a record that gives a row, with what tells it from those before
abbrev pub good_of : Option KnownRecords → List ℕ → List (List ℕ) → GoodRow → Taken
good_of known places fields row = good (key_in known places fields) (said_of row)

-- how the numbers of a row come of a record
abbrev pub rule_in : Source → RowRule
rule_in source = record { columns = source.columns; places = source.places; point = source.point }

-- the time among numbers, which is the first of them where there is none at its place
abbrev pub time_in : ℕ → ℤ → List ℤ → ℤ
time_in time first others = get_or (first ∷ others) time first

-- the row of these numbers, with its time at a place
abbrev pub IsRowOf : ℕ → List ℤ → Row → Type 0
IsRowOf time numbers row = (numbers ≡ row.first ∷ row.others) × (row.time ≡ time_in time row.first row.others) × (is_time row.time ≡ true)

-- numbers have no time
abbrev pub HasNoTime : ℕ → List ℤ → Type 0
HasNoTime time [] = Unit {0}
HasNoTime time (first ∷ others) = is_time (time_in time first others) ≡ false

-- the row of numbers, or that they have no time
abbrev pub IsGood : ℕ → List ℤ → Result GoodRow RowFault → Type 0
IsGood time numbers (Ok row) = IsRowOf time numbers (said_of row)
IsGood time numbers (Err fault) = (fault ≡ Place Range) × HasNoTime time numbers

-- the row of a record's texts by some table of names
pub record HasRow (rule : RowRule) (time : ℕ) (fields : List (List ℕ)) (row : Row) : Type 0 where
  pub names : List (List ℕ)
  pub after : List (List ℕ)
  pub numbers : List ℤ
  pub filled : FillsRow rule fields names numbers after (Ok tt)
  pub is_row : IsRowOf time numbers row

-- a text of a record is refused
pub record HasNoRow (rule : RowRule) (fields : List (List ℕ)) (fault : RowFault) : Type 0 where
  pub names : List (List ℕ)
  pub after : List (List ℕ)
  pub numbers : List ℤ
  pub filled : FillsRow rule fields names numbers after (Err fault)

-- or its time is out of range
pub record IsOutOfRange (rule : RowRule) (time : ℕ) (fields : List (List ℕ)) : Type 0 where
  pub names : List (List ℕ)
  pub after : List (List ℕ)
  pub numbers : List ℤ
  pub filled : FillsRow rule fields names numbers after (Ok tt)
  pub no_time : HasNoTime time numbers

-- a record gives no row, for this
abbrev pub RefusesRow : RowRule → ℕ → List (List ℕ) → RowFault → Type 0
RefusesRow rule time fields fault = HasNoRow rule fields fault ⊎ ((fault ≡ Place Range) × IsOutOfRange rule time fields)

-- the row of a record, or why it has none
abbrev pub MakesRow : RowRule → ℕ → List (List ℕ) → Result GoodRow RowFault → Type 0
MakesRow rule time fields (Ok row) = HasRow rule time fields (said_of row)
MakesRow rule time fields (Err fault) = RefusesRow rule time fields fault
