-- A row as a record of CSV.
use Rattle.std.specs.Prelude.{◌≡◌, ◌==◌, ℕ, ℤ, List, [], ◌∷◌, ◌++◌, if◌then◌else◌}
use Rattle.csv.specs.Writing.{default_writer, field_text, row_body}
use Rattle.row_tables.specs.Cells.{Shows}
use Rattle.row_tables.specs.declared.kind.CellKind.{CellKind}
use Rattle.row_export.specs.Objects.{comma_at}
use Rattle.row_export.specs.Shown.{ShowsRow, csv_line}

-- a byte of a field between quotes
abbrev pub escaped_byte : ℕ → List ℕ
escaped_byte b = if b == 34 then 34 ∷ b ∷ [] else b ∷ []

-- a text has a field behind it, whose cell shows a number
pub record HasField (kind : CellKind) (names : List (List ℕ)) (number : ℤ) (before after : List ℕ) : Type 0 where
  pub cell : List ℕ
  pub shown : Shows kind names number cell
  pub text : after ≡ before ++ field_text default_writer cell

-- the same behind a comma, where it is not the first
pub record HasFieldAt (place : ℕ) (kind : CellKind) (names : List (List ℕ)) (number : ℤ) (before after : List ℕ) : Type 0 where
  pub cell : List ℕ
  pub shown : Shows kind names number cell
  pub text : after ≡ before ++ (comma_at place ++ field_text default_writer cell)

-- a text has the fields of cells behind it that show the numbers of a row
pub record HasFields (kinds : List CellKind) (names : List (List ℕ)) (numbers : List ℤ) (before after : List ℕ) : Type 0 where
  pub cells : List (List ℕ)
  pub shown : ShowsRow kinds names numbers cells
  pub text : after ≡ before ++ row_body default_writer cells

-- a line is the record of cells that show the numbers of a row
pub record IsRecord (kinds : List CellKind) (names : List (List ℕ)) (numbers : List ℤ) (line : List ℕ) : Type 0 where
  pub cells : List (List ℕ)
  pub shown : ShowsRow kinds names numbers cells
  pub text : line ≡ csv_line cells
