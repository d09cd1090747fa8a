-- What is told of a fault.
use Rattle.std.specs.Prelude.{◌≡◌, ℕ, List, [], length, Option, Some, None}
use Rattle.row_changes.specs.Merging.{WritesChanges}
use Rattle.plan_model.specs.PlanData.{PlanData}
use Rattle.plan_model.specs.declared.spec.Pane.{Pane}
use Rattle.import_columns.specs.declared.word.ColumnWord.{ColumnWord}
use Rattle.row_merges.specs.Merges.{HoldsTexts, MergesRows}
use Rattle.row_merges.specs.declared.merge.Merge.{Merge}
use Rattle.row_merges.specs.declared.fault.MergeFault.{MergeFault}
use Rattle.row_merges.specs.declared.fault.MergeFault.TheVariants as merges
use Rattle.row_tables.specs.declared.kind.CellKind.{CellKind}
use Rattle.row_export.specs.Objects.{object_line}
use Rattle.row_export.specs.Shown.{WritesTable, csv_line, header_shown, kinds_shown}
use Rattle.row_export.specs.Titles.{titles_shown}
use Rattle.row_commands.specs.declared.exporting.RowsForm.{RowsForm}
use Rattle.row_commands.specs.declared.exporting.RowsForm.TheVariants.{Table, Objects}
use Rattle.row_lines.specs.declared.rows.RowsFault.{RowsFault}
use Rattle.row_lines.specs.declared.rows.RowsFault.TheVariants as rows
use Rattle.row_changes.specs.declared.fault.ChangesFault.{ChangesFault}
use Rattle.row_changes.specs.declared.fault.ChangesFault.TheVariants as changes
use Rattle.row_commands.specs.declared.refusal.RowsCode.{RowsCode}
use Rattle.row_commands.specs.declared.refusal.RowsCode.TheVariants as code
use Rattle.row_commands.specs.declared.refusal.RowsRefusal.{RowsRefusal}
use Rattle.row_commands.specs.declared.refusal.RowsRefusal.TheVariants.{Refused, Import, Write, Memory}

-- a refusal with a code, or that there was no memory for its sentence
abbrev pub IsRefusal : RowsCode → RowsRefusal → Type 0
IsRefusal code (Refused other sentence) = other ≡ code
IsRefusal code (Import fault) = ⊥
IsRefusal code Write = ⊥
IsRefusal code Memory = Unit {0}

abbrev pub TellsRows : RowsFault → RowsRefusal → Type 0
TellsRows rows.Read told = IsRefusal code.Read told
TellsRows rows.Line told = IsRefusal code.Rows told
TellsRows rows.Order told = IsRefusal code.Order told
TellsRows rows.Memory told = told ≡ Memory

abbrev pub TellsChanges : ChangesFault → RowsRefusal → Type 0
TellsChanges (changes.Old fault line) told = TellsRows fault told
TellsChanges (changes.New fault line) told = TellsRows fault told
TellsChanges changes.Write told = told ≡ Write
TellsChanges changes.Memory told = told ≡ Memory

-- what changed between some two texts was written
abbrev pub HasWritten : Option (List ℕ) → Option (List ℕ) → Type 0
HasWritten before after = (old : Option (List ℕ)) × (new : Option (List ℕ)) × WritesChanges old new before after

-- rows are written as a table, or as an object each
abbrev pub WritesRows : RowsForm → List CellKind → List (List ℕ) → List (List ℕ) → Option ℕ → Option Pane → Option (List ℕ) → Option (List ℕ) → Option (List ℕ) → Type 0
WritesRows (Table has_header) kinds titles names = WritesTable csv_line kinds names (header_shown has_header titles)
WritesRows Objects kinds titles names = WritesTable (object_line titles kinds) kinds names []

-- some text of rows was written in some form, each row with as many numbers as the plan's, by what its numbers are
-- called and shown as with some columns
abbrev pub HasExported : PlanData → Option (List ℕ) → Option (List ℕ) → Type 0
HasExported p before after =
    (form : RowsForm) × (columns : List ColumnWord) × (names : List (List ℕ)) × (text : Option (List ℕ))
    × WritesRows form (kinds_shown p.window columns) (titles_shown p.window columns) names (Some (length p.window.aggregates)) None text before after

abbrev pub TellsMerge : MergeFault → RowsRefusal → Type 0
TellsMerge (merges.Text place fault line) told = TellsRows fault told
TellsMerge merges.Write told = told ≡ Write
TellsMerge merges.Memory told = told ≡ Memory

-- so many texts are held, of which no row was passed
abbrev pub HasTexts : {R : Type 0} → (R → Option (List ℕ)) → ℕ → Merge R → Type 0
HasTexts remaining count merge = (texts : List (Option (List ℕ))) × (length texts ≡ count) × HoldsTexts remaining texts merge

-- the rows of so many texts were written, as one text
abbrev pub HasMerged : ℕ → Option (List ℕ) → Option (List ℕ) → Type 0
HasMerged count before after = (texts : List (Option (List ℕ))) × (length texts ≡ count) × MergesRows texts before after
