-- Rows, as their lines tell them.
use Rattle.std.specs.Prelude.{◌≡◌, ◌≢◌, ℕ, ℤ, ◌<◌, ◌≤◌, List, ◌∷◌, ◌++◌, length, Option, Some, None, FitsSigned}
use Rattle.std.specs.Int.{w64, w128}
use Rattle.std.specs.List.{All}
use Rattle.plan_model.specs.declared.limits.TheConstants.{MOST_AGGREGATES}
use Rattle.plan_model.specs.declared.spec.Row.{Row}
use Rattle.plan_model.specs.Rows.{pane_of}
use Rattle.row_lines.specs.Text.{text_of_row}
use Rattle.row_lines.specs.Numbers.{AreNumbers}
use Rattle.row_lines.specs.declared.place.RowPlace.{RowPlace}

-- what every row meets: a start, an end and a key of 64 bits, and 1 to 8 numbers of 128
pub record IsRow (row : Row) : Type 0 where
  pub start : FitsSigned w64 row.start
  pub end : FitsSigned w64 row.end
  pub key : FitsSigned w64 row.key
  pub some : 0 < length row.values
  pub few : length row.values ≤ MOST_AGGREGATES
  pub values : All (FitsSigned w128) row.values

-- a row's numbers, in the order of its line
abbrev pub numbers_in : Row → List ℤ
numbers_in row = row.start ∷ row.end ∷ row.key ∷ row.values

-- the row of numbers that a row can have, or that no row has them
abbrev pub GivesRowOf : List ℤ → Option Row → Type 0
GivesRowOf numbers (Some row) = AreNumbers numbers → IsRow row × (numbers ≡ numbers_in row)
GivesRowOf numbers None = (row : Row) → IsRow row → numbers ≢ numbers_in row

-- the row whose line is this, without its line feed, or that it is of none
abbrev pub GivesRow : List ℕ → Option Row → Type 0
GivesRow line (Some row) = IsRow row × (line ≡ text_of_row row)
GivesRow line None = (row : Row) → IsRow row → line ≢ text_of_row row

-- where a row stands, and how many numbers it has
abbrev pub place_of : Row → RowPlace
place_of row = record { pane = pane_of row; width = length row.values }

-- the line is that of a row at this place
pub record IsPlaceOf (line : List ℕ) (place : RowPlace) : Type 0 where
  pub row : Row
  pub is : IsRow row
  pub line_is : line ≡ text_of_row row
  pub place_is : place ≡ place_of row

-- the line of a row at this place stands in front of a text, with its line feed, and this behind it
abbrev pub IsLineFront : List ℕ → RowPlace → List ℕ → Type 0
IsLineFront text place rest = (line : List ℕ) × IsPlaceOf line place × (text ≡ line ++ 10 ∷ rest)
