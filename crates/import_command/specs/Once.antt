-- The columns whose fields tell records from one another.
use Rattle.std.specs.Prelude.{◌≡◌, ℕ, List, map, position, bytes_eq, Option, Some, None, Result, Ok, Err, Vec}
use Rattle.std.specs.List.{Contains}
use Rattle.std.specs.Borrow.{Bor}
use Rattle.import_columns.specs.declared.column.Column.{Column}
use Rattle.import_words.specs.Files.{parts}
use Rattle.import_words.specs.Judging.{IsRefusal}
use Rattle.import_words.specs.declared.refusal.ImportCode.TheVariants.{Columns, Options}
use Rattle.import_words.specs.declared.refusal.ImportFault.{ImportFault}
use Rattle.import_words.specs.declared.refusal.ImportFault.TheVariants.{Refused, Write, Memory}
use Rattle.import_command.specs.declared.words.ImportWords.{ImportWords}

-- the first column of a field
abbrev pub column_of : List Column → List ℕ → Option ℕ
column_of columns field = position (λ column. bytes_eq column.field.now field) columns

-- a refusal since no column has one of the fields, or there was no memory
abbrev pub RefusesFields : List Column → List (List ℕ) → ImportFault → Type 0
RefusesFields columns fields (Refused code sentence) = (code ≡ Columns) × (field : List ℕ) × Contains fields field × (column_of columns field ≡ None)
RefusesFields columns fields Write = ⊥
RefusesFields columns fields Memory = Unit {0}

-- the columns of fields, or such a refusal
abbrev pub GivesPlaces : {A : Type 0} → List Column → List (List ℕ) → Result (Vec ℕ A) ImportFault → Type 0
GivesPlaces columns fields (Ok places) = map (column_of columns) fields ≡ map (λ place. Some place) places.items
GivesPlaces columns fields (Err fault) = RefusesFields columns fields fault

abbrev pub GivesOnceOf : {A : Type 0} → List Column → Option (Bor (List ℕ)) → Option (Bor (List ℕ)) → Result (Option (Vec ℕ A)) ImportFault → Type 0
GivesOnceOf columns (Some once) twice (Ok (Some places)) = map (column_of columns) (parts once.now) ≡ map (λ place. Some place) places.items
GivesOnceOf columns (Some once) twice (Ok None) = ⊥
GivesOnceOf columns (Some once) twice (Err fault) = RefusesFields columns (parts once.now) fault
GivesOnceOf columns None (Some twice) (Ok places) = ⊥
GivesOnceOf columns None (Some twice) (Err fault) = IsRefusal Options fault
GivesOnceOf columns None None answer = answer ≡ Ok None

-- the columns that words ask for, if they do, or why there are none
abbrev pub GivesOnce : {A : Type 0} → ImportWords → List Column → Result (Option (Vec ℕ A)) ImportFault → Type 0
GivesOnce words columns answer = GivesOnceOf columns words.once words.twice answer
