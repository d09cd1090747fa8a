-- Why texts of rows are not merged: of which text, at which line, and what stands there.
use Rattle.std.specs.Prelude.{◌≡◌, ◌<◌, ◌⊎◌, ℕ, List, Option, Some, Err, slice_index_or}
use Rattle.row_lines.specs.Sequences.{line_number, Admits, IsNextPlace, IsPlaceCounted}
use Rattle.row_lines.specs.declared.place.RowPlace.{RowPlace}
use Rattle.row_lines.specs.declared.rows.RowLines.{RowLines}
use Rattle.row_lines.specs.declared.rows.RowsFault.{RowsFault}
use Rattle.row_merges.specs.declared.fault.MergeFault.{MergeFault}
use Rattle.row_merges.specs.declared.fault.MergeFault.TheVariants.{Text, Write, Memory}
use Rattle.row_merges.specs.declared.head.Head.{Head}
use Rattle.row_merges.specs.declared.merge.Merge.{Merge}

-- the text at a place has no next row: why, at the line that was looked at
abbrev pub RefusesNext : {R : Type 0} → (R → Option (List ℕ)) → RowLines R → RowLines R → ℕ → MergeFault → Type 0
RefusesNext remaining old new place (Text at fault line) = (at ≡ place) × (line ≡ line_number new) × IsNextPlace remaining old new (Err fault) × IsPlaceCounted old new (Err fault)
RefusesNext remaining old new place Write = ⊥
RefusesNext remaining old new place Memory = Unit {0}

-- the row at hand of a text may not be the next one: why, at its line
pub record IsRefused {R : Type 0} (merge : Merge R) (head : Head R) (fault : RowsFault) (line : ℕ) : Type 0 where
  pub row : RowPlace
  pub at_hand : head.row ≡ Some row
  pub why : Admits merge.width merge.last row (Err fault)
  pub line_is : line ≡ line_number head.rows

abbrev pub RefusesRow : {R : Type 0} → Merge R → ℕ → MergeFault → Type 0
RefusesRow {R} merge place (Text at fault line) = (at ≡ place) × ((d : Head R) → IsRefused merge (slice_index_or merge.heads.items place d) fault line)
RefusesRow merge place Write = ⊥
RefusesRow merge place Memory = ⊥

-- the row at hand of the text at a place may not be the next one, or the text has none behind it
abbrev pub RefusesAt : {R : Type 0} → (R → Option (List ℕ)) → Merge R → ℕ → MergeFault → Type 0
RefusesAt {R} remaining merge place told =
    RefusesRow merge place told ⊎ ((d : Head R) → (new : RowLines R) × RefusesNext remaining (slice_index_or merge.heads.items place d).rows new place told)

-- a refusal is of one of so many texts, or of none
abbrev pub IsOfText : ℕ → MergeFault → Type 0
IsOfText count (Text place fault line) = place < count
IsOfText count Write = Unit {0}
IsOfText count Memory = Unit {0}
