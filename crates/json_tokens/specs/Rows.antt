-- Rows of whole numbers, all of one width.
use Rattle.std.specs.Prelude.{ℕ, ℤ, List, [], ◌∷◌, ◌++◌, length, Option, Some, None, option_and_then, if◌then◌else◌, ◌==◌}
use Rattle.serde_json.specs.Data.{Data}
use Rattle.json_parts.specs.Parts.{whole, list_text}

abbrev pub of_width : ℕ → List ℤ → Option (List ℤ)
of_width width row = if length row == width then Some row else None

-- a row of that width
unfoldable pub row_text : ℕ → Data → Option (List ℤ)
row_text width d = option_and_then (of_width width) (list_text whole d)

-- the numbers of rows, row after row
abbrev pub joined : List (List ℤ) → List ℤ
joined [] = []
joined (row ∷ rows) = row ++ joined rows
