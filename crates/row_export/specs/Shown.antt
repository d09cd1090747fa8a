-- What the records of a table say.
use Rattle.std.specs.Prelude.{◌≡◌, ℕ, ◌-◌, ℤ, Bool, true, false, List, [], ◌∷◌, ◌++◌, length, map, Option, IfSome, string_bytes}
use Rattle.std.specs.Io.KnownBytes.{Appends}
use Rattle.std.specs.List.{flat_map}
use Rattle.csv.specs.Writing.{row_text, default_writer, fields_written, has_written, writer_setup}
use Rattle.csv.specs.declared.writer.Writer.{Writer}
use Rattle.plan_model.specs.declared.spec.Pane.{Pane}
use Rattle.plan_model.specs.declared.spec.Row.{Row}
use Rattle.plan_model.specs.declared.spec.WindowSpec.{WindowSpec}
use Rattle.import_columns.specs.declared.word.ColumnWord.{ColumnWord}
use Rattle.row_lines.specs.Rows.{numbers_in}
use Rattle.row_lines.specs.Sequences.{AreRows}
use Rattle.row_lines.specs.Text.{text_of_rows}
use Rattle.row_tables.specs.Cells.{Shows, kind_at, aggregate_kind}
use Rattle.row_tables.specs.declared.kind.CellKind.{CellKind}
use Rattle.row_export.specs.declared.table.Table.{Table}

-- each number of a row is shown by one cell, in order
abbrev pub ShowsRow : List CellKind → List (List ℕ) → List ℤ → List (List ℕ) → Type 0
ShowsRow [] names [] [] = Unit {0}
ShowsRow [] names [] (text ∷ texts) = ⊥
ShowsRow [] names (number ∷ numbers) texts = ⊥
ShowsRow (kind ∷ kinds) names [] texts = ⊥
ShowsRow (kind ∷ kinds) names (number ∷ numbers) [] = ⊥
ShowsRow (kind ∷ kinds) names (number ∷ numbers) (text ∷ texts) = Shows kind names number text × ShowsRow kinds names numbers texts

-- each row is shown by one record, in order
abbrev pub ShowsRows : List CellKind → List (List ℕ) → List Row → List (List (List ℕ)) → Type 0
ShowsRows kinds names [] [] = Unit {0}
ShowsRows kinds names [] (cells ∷ records) = ⊥
ShowsRows kinds names (row ∷ rows) [] = ⊥
ShowsRows kinds names (row ∷ rows) (cells ∷ records) = ShowsRow kinds names (numbers_in row) cells × ShowsRows kinds names rows records

-- what the numbers of a table's rows are shown as
abbrev pub kinds_of : Table → List CellKind
kinds_of table = table.kinds.items

-- what the numbers of a window's rows are shown as: start and end as the time, the key, and each aggregate
abbrev pub kinds_shown : WindowSpec → List ColumnWord → List CellKind
kinds_shown window columns = kind_at columns window.time ∷ kind_at columns window.time ∷ kind_at columns window.key ∷ map (aggregate_kind columns) window.aggregates

-- what they are called
abbrev pub titles_of : Table → List (List ℕ)
titles_of table = map string_bytes table.names.items

-- how many there are behind start, end and key
abbrev pub width_of : Table → ℕ
width_of table = length table.kinds.items - 3

-- the record of names, where there is to be one
abbrev pub header_shown : Bool → List (List ℕ) → List (List (List ℕ))
header_shown true titles = titles ∷ []
header_shown false titles = []

-- the line of a record in CSV
abbrev pub csv_line : List (List ℕ) → List ℕ
csv_line = row_text default_writer

-- a text is that of rows, and what is written is the lines of a header and of a record that shows each of them, in
-- order
pub record WritesTable (line : List (List ℕ) → List ℕ) (kinds : List CellKind) (names : List (List ℕ)) (header : List (List (List ℕ))) (width : Option ℕ) (last : Option Pane) (text before after : Option (List ℕ)) : Type 0 where
  pub rows : List Row
  pub records : List (List (List ℕ))
  pub are : AreRows width last rows
  pub read : IfSome text (λ bytes. bytes ≡ text_of_rows rows)
  pub shown : ShowsRows kinds names rows records
  pub written : Appends before after (flat_map line (header ++ records))

-- a writer of CSV as it is by default, at the end of a record
pub record IsBetween {W : Type 0} (out : Writer W) : Type 0 where
  pub fields : fields_written out ≡ 0
  pub clean : has_written out ≡ false
  pub setup : writer_setup out ≡ default_writer
