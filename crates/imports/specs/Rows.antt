-- The numbers of a row, each of the text of its column.
use Rattle.std.specs.Prelude.{◌≡◌, ◌≢◌, ℕ, ℤ, suc, pos, List, [], ◌∷◌, take, slice_get, unwrap_or, Option, Some, Result, Ok, Err, IsUtf8}
use Rattle.asked_fields.specs.declared.joint.Joint.{Joint}
use Rattle.decimal_texts.specs.declared.point.DecimalPoint.{DecimalPoint}
use Rattle.field_values.specs.declared.fault.FieldFault.{FieldFault}
use Rattle.field_values.specs.declared.fault.FieldFault.TheVariants.{EmptyName}
use Rattle.import_columns.specs.Values.{IsNumberOf, read_text}
use Rattle.import_columns.specs.declared.column.Column.{Column}
use Rattle.import_columns.specs.declared.kind.ColumnKind.{ColumnKind}
use Rattle.import_columns.specs.declared.kind.ColumnKind.TheVariants as kind
use Rattle.name_table.specs.Names.{number_said, with_name}
use Rattle.imports.specs.Picks.{text_at}
use Rattle.imports.specs.declared.fault.RowFault.{RowFault}
use Rattle.imports.specs.declared.fault.RowFault.TheVariants.{Value, NoText, Memory}
use Rattle.imports.specs.declared.row.RowRule.{RowRule}

-- the names behind a text
abbrev pub names_by : ColumnKind → List (List ℕ) → List ℕ → List (List ℕ)
names_by (kind.Value value) names text = names
names_by kind.Name names text = with_name names text

-- a text is this number behind names
abbrev pub IsNumber : DecimalPoint → Option Joint → ColumnKind → List (List ℕ) → List ℕ → ℤ → Type 0
IsNumber mark joint (kind.Value value) names text number = IsNumberOf joint value (read_text mark value text) (Ok number)
IsNumber mark joint kind.Name names text number = (text ≢ []) × IsUtf8 text × (number ≡ pos (number_said names text))

-- a text is refused for this
abbrev pub IsWrong : DecimalPoint → Option Joint → ColumnKind → List ℕ → FieldFault → Type 0
IsWrong mark joint (kind.Value value) text fault = IsNumberOf joint value (read_text mark value text) (Err fault)
IsWrong mark joint kind.Name text fault = (text ≡ []) × (fault ≡ EmptyName)

-- a text is no name
abbrev pub IsNoText : ColumnKind → List ℕ → Type 0
IsNoText (kind.Value value) text = ⊥
IsNoText kind.Name text = ¬ IsUtf8 text

-- what comes of the text of a column, which stands at a place, behind names
abbrev pub Gives : DecimalPoint → Option Joint → ColumnKind → ℕ → ℕ → List ℕ → List (List ℕ) → List (List ℕ) → Result ℤ RowFault → Type 0
Gives mark joint how i place text names after (Ok number) = IsNumber mark joint how names text number × (after ≡ names_by how names text)
Gives mark joint how i place text names after (Err (Value column at fault)) = (after ≡ names) × (column ≡ i) × (at ≡ place) × IsWrong mark joint how text fault
Gives mark joint how i place text names after (Err (NoText column)) = (after ≡ names) × (column ≡ i) × IsNoText how text
Gives mark joint how i place text names after (Err Memory) = Unit {0}
Gives mark joint how i place text names after (Err fault) = ⊥

abbrev pub GivesNumber : DecimalPoint → Column → ℕ → ℕ → List ℕ → List (List ℕ) → List (List ℕ) → Result ℤ RowFault → Type 0
GivesNumber mark column i place text names after answer = Gives mark column.joint column.kind i place text names after answer

abbrev pub IsNameOf : List (List ℕ) → List ℕ → ℕ → ℕ → List (List ℕ) → Result ℤ RowFault → Type 0
IsNameOf names text i place after (Ok number) = (text ≢ []) × IsUtf8 text × (number ≡ pos (number_said names text)) × (after ≡ with_name names text)
IsNameOf names text i place after (Err (Value column at fault)) = (after ≡ names) × (column ≡ i) × (at ≡ place) × (text ≡ []) × (fault ≡ EmptyName)
IsNameOf names text i place after (Err (NoText column)) = (after ≡ names) × (column ≡ i) × (¬ IsUtf8 text)
IsNameOf names text i place after (Err Memory) = Unit {0}
IsNameOf names text i place after (Err fault) = ⊥

-- where the text of a column stands
abbrev pub place_said : List ℕ → ℕ → ℕ
place_said places column = unwrap_or (slice_get places column) column

abbrev pub column_text : List ℕ → List (List ℕ) → ℕ → List ℕ
column_text places fields column = text_at fields (place_said places column)

-- the names behind the texts of columns, of which the first has this index
abbrev pub names_after : (ℕ → List ℕ) → ℕ → List (List ℕ) → List Column → List (List ℕ)
names_after text i names [] = names
names_after text i names (column ∷ columns) = names_after text (suc i) (names_by column.kind names (text i)) columns

-- the numbers of a row are those of the texts of columns, of which the first has this index
abbrev pub AreNumbers : DecimalPoint → (ℕ → List ℕ) → ℕ → List (List ℕ) → List Column → List ℤ → Type 0
AreNumbers mark text i names [] [] = Unit {0}
AreNumbers mark text i names [] (number ∷ numbers) = ⊥
AreNumbers mark text i names (column ∷ columns) [] = ⊥
AreNumbers mark text i names (column ∷ columns) (number ∷ numbers) = IsNumber mark column.joint column.kind names (text i) number
    × AreNumbers mark text (suc i) (names_by column.kind names (text i)) columns numbers

-- these are the numbers of the first columns, and the names behind their texts
abbrev pub AreFirst : RowRule → List (List ℕ) → List (List ℕ) → List Column → List ℤ → List (List ℕ) → Type 0
AreFirst rule fields names columns numbers after =
    AreNumbers rule.point (column_text rule.places.now fields) 0 names columns numbers × (after ≡ names_after (column_text rule.places.now fields) 0 names columns)

-- a row has a number of each column's text, or those of the columns before the first whose text is refused
abbrev pub FillsRow : RowRule → List (List ℕ) → List (List ℕ) → List ℤ → List (List ℕ) → Result (Unit {0}) RowFault → Type 0
FillsRow rule fields names numbers after (Ok done) = AreFirst rule fields names rule.columns.now numbers after
FillsRow rule fields names numbers after (Err (Value i place fault)) = (column : Column) × (slice_get rule.columns.now i ≡ Some column) × (place ≡ place_said rule.places.now i)
    × AreFirst rule fields names (take i rule.columns.now) numbers after × IsWrong rule.point column.joint column.kind (column_text rule.places.now fields i) fault
FillsRow rule fields names numbers after (Err (NoText i)) = (column : Column) × (slice_get rule.columns.now i ≡ Some column)
    × AreFirst rule fields names (take i rule.columns.now) numbers after × IsNoText column.kind (column_text rule.places.now fields i)
FillsRow rule fields names numbers after (Err Memory) = Unit {0}
FillsRow rule fields names numbers after (Err fault) = ⊥
