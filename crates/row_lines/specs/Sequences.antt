-- Rows that stand one behind the other in a text.
use Rattle.std.specs.Prelude.{◌≡◌, ◌≢◌, ◌==◌, ℕ, ◌+◌, ◌-◌, ◌^◌, min, Bool, true, false, List, [], ◌∷◌, ◌++◌, length, Option, Some, None, IfSome, Result, Ok, Err}
use Rattle.std.specs.Ordering.{is_lt}
use Rattle.std.specs.Io.KnownBytes.{Consumes, IsAtEnd}
use Rattle.plan_model.specs.declared.spec.Pane.{Pane}
use Rattle.plan_model.specs.declared.spec.Row.{Row}
use Rattle.plan_model.specs.Rows.{pane_of, pane_cmp}
use Rattle.row_lines.specs.Text.{text_of_row, line_of}
use Rattle.row_lines.specs.Rows.{IsRow, IsPlaceOf, place_of}
use Rattle.row_lines.specs.Lines.{lines_left, line_in, IsOneLine}
use Rattle.row_lines.specs.declared.lines.Lines.{Lines}
use Rattle.row_lines.specs.declared.place.RowPlace.{RowPlace}
use Rattle.row_lines.specs.declared.rows.RowLines.{RowLines}
use Rattle.row_lines.specs.declared.rows.RowsFault.{RowsFault}
use Rattle.row_lines.specs.declared.rows.RowsFault.TheVariants as fault

-- a row has as many numbers as are wanted, where that is told
abbrev pub has_width : Option ℕ → ℕ → Bool
has_width None width = true
has_width (Some wanted) width = wanted == width

-- a pane is behind another by start and then key, or the first
abbrev pub is_after : Option Pane → Pane → Bool
is_after None q = true
is_after (Some p) q = is_lt (pane_cmp p q)

-- rows with so many numbers each, all alike, and each behind the one before
abbrev pub AreRows : Option ℕ → Option Pane → List Row → Type 0
AreRows width last [] = Unit {0}
AreRows width last (row ∷ rows) =
    IsRow row × (has_width width (length row.values) ≡ true) × (is_after last (pane_of row) ≡ true)
    × AreRows (Some (length row.values)) (Some (pane_of row)) rows

abbrev pub lines_of : {R : Type 0} → RowLines R → Lines R
lines_of rows = rows.lines

-- what was not read yet, where it is known
abbrev pub rows_left : {R : Type 0} → (R → Option (List ℕ)) → RowLines R → Option (List ℕ)
rows_left remaining rows = lines_left remaining rows.lines

abbrev pub line_number : {R : Type 0} → RowLines R → ℕ
line_number rows = rows.number

abbrev pub width_of : {R : Type 0} → RowLines R → Option ℕ
width_of rows = rows.width

abbrev pub last_of : {R : Type 0} → RowLines R → Option Pane
last_of rows = rows.last

-- a text begins with the line of no row that has such a width
abbrev pub HasNoRow : Option ℕ → List ℕ → Type 0
HasNoRow width text = (text ≢ []) × ((row : Row) (rest : List ℕ) → IsRow row → has_width width (length row.values) ≡ true → text ≢ line_of row ++ rest)

-- a text begins with the line of a row that has such a width, and is not behind the one before
abbrev pub HasEarlyRow : Option ℕ → Option Pane → List ℕ → Type 0
HasEarlyRow width last text =
    (row : Row) × (rest : List ℕ) × IsRow row × (has_width width (length row.values) ≡ true) × (is_after last (pane_of row) ≡ false) × (text ≡ line_of row ++ rest)

-- the next row was read
pub record IsRead {R : Type 0} (remaining : R → Option (List ℕ)) (old new : RowLines R) (row : Row) : Type 0 where
  pub is : IsRow row
  pub wide : has_width (width_of old) (length row.values) ≡ true
  pub after : is_after (last_of old) (pane_of row) ≡ true
  pub text : Consumes (rows_left remaining old) (rows_left remaining new) (line_of row)
  pub width : width_of new ≡ Some (length row.values)
  pub last : last_of new ≡ Some (pane_of row)
  pub line : line_in (lines_of new) ≡ text_of_row row

-- the next row, or that there is none, or why it is refused
abbrev pub IsNext : {R : Type 0} → (R → Option (List ℕ)) → RowLines R → RowLines R → Result (Option Row) RowsFault → Type 0
IsNext remaining old new (Ok (Some row)) = IsRead remaining old new row
IsNext remaining old new (Ok None) = IsAtEnd (rows_left remaining old)
IsNext remaining old new (Err fault.Line) = IfSome (rows_left remaining old) (HasNoRow (width_of old))
IsNext remaining old new (Err fault.Order) = IfSome (rows_left remaining old) (HasEarlyRow (width_of old) (last_of old))
IsNext remaining old new (Err fault.Read) = Unit {0}
IsNext remaining old new (Err fault.Memory) = Unit {0}

-- the place of the next row, which was read, or that there is none, or why it is refused
abbrev pub IsNextPlace : {R : Type 0} → (R → Option (List ℕ)) → RowLines R → RowLines R → Result (Option RowPlace) RowsFault → Type 0
IsNextPlace remaining old new (Ok (Some place)) = (row : Row) × IsRead remaining old new row × (place ≡ place_of row)
IsNextPlace remaining old new (Ok None) = IsAtEnd (rows_left remaining old)
IsNextPlace remaining old new (Err f) = IsNext remaining old new (Err f)

-- a line was read
pub record IsLine {R : Type 0} (remaining : R → Option (List ℕ)) (old new : RowLines R) : Type 0 where
  pub text : Consumes (rows_left remaining old) (rows_left remaining new) (line_in (lines_of new) ++ 10 ∷ [])
  pub one : IsOneLine (line_in (lines_of new))
  pub width : width_of new ≡ width_of old
  pub last : last_of new ≡ last_of old

-- the next line, or that there is none, or why there is no row
abbrev pub IsNextLine : {R : Type 0} → (R → Option (List ℕ)) → RowLines R → RowLines R → Result Bool RowsFault → Type 0
IsNextLine remaining old new (Ok true) = IsLine remaining old new
IsNextLine remaining old new (Ok false) = IsAtEnd (rows_left remaining old)
IsNextLine remaining old new (Err f) = IsNext remaining old new (Err f)

-- the line that was looked at is counted
abbrev pub counted : ℕ → ℕ
counted number = min (number + 1) (2 ^ 64 - 1)

abbrev pub IsCounted : {R : Type 0} → RowLines R → RowLines R → Result (Option Row) RowsFault → Type 0
IsCounted old new (Ok (Some row)) = line_number new ≡ counted (line_number old)
IsCounted old new (Ok None) = line_number new ≡ line_number old
IsCounted old new (Err fault.Line) = line_number new ≡ counted (line_number old)
IsCounted old new (Err fault.Order) = line_number new ≡ counted (line_number old)
IsCounted old new (Err fault.Read) = line_number new ≡ line_number old
IsCounted old new (Err fault.Memory) = Unit {0}

abbrev pub IsPlaceCounted : {R : Type 0} → RowLines R → RowLines R → Result (Option RowPlace) RowsFault → Type 0
IsPlaceCounted old new (Ok (Some place)) = line_number new ≡ counted (line_number old)
IsPlaceCounted old new (Ok None) = line_number new ≡ line_number old
IsPlaceCounted old new (Err f) = IsCounted old new (Err f)

abbrev pub IsLineCounted : {R : Type 0} → RowLines R → RowLines R → Result Bool RowsFault → Type 0
IsLineCounted old new (Ok true) = line_number new ≡ counted (line_number old)
IsLineCounted old new (Ok false) = line_number new ≡ line_number old
IsLineCounted old new (Err f) = IsCounted old new (Err f)

-- the line of a row at this place was read
pub record IsPlaceRead {R : Type 0} (remaining : R → Option (List ℕ)) (old new : RowLines R) (place : RowPlace) : Type 0 where
  pub line : IsLine remaining old new
  pub number : line_number new ≡ counted (line_number old)
  pub place_is : IsPlaceOf (line_in (lines_of new)) place

-- the place of the row of the next line, or that there is none, or why there is no row
abbrev pub GivesPlaceRead : {R : Type 0} → (R → Option (List ℕ)) → RowLines R → RowLines R → Result (Option RowPlace) RowsFault → Type 0
GivesPlaceRead remaining old new (Ok (Some place)) = IsPlaceRead remaining old new place
GivesPlaceRead remaining old new (Ok None) = IsAtEnd (rows_left remaining old)
GivesPlaceRead remaining old new (Err f) = IsNext remaining old new (Err f)

-- nothing was read
pub record IsAsBefore {R : Type 0} (old new : RowLines R) : Type 0 where
  pub lines : lines_of new ≡ lines_of old
  pub width : width_of new ≡ width_of old
  pub last : last_of new ≡ last_of old
  pub number : line_number new ≡ line_number old

-- a row at a place may be the next one, or why it is refused
abbrev pub Admits : Option ℕ → Option Pane → RowPlace → Result (Unit {0}) RowsFault → Type 0
Admits width last place (Ok done) = (has_width width place.width ≡ true) × (is_after last place.pane ≡ true)
Admits width last place (Err fault.Line) = has_width width place.width ≡ false
Admits width last place (Err fault.Order) = (has_width width place.width ≡ true) × (is_after last place.pane ≡ false)
Admits width last place (Err fault.Read) = ⊥
Admits width last place (Err fault.Memory) = ⊥

-- a row at a place is the last one, or why it is refused
pub record IsLast {R : Type 0} (old new : RowLines R) (place : RowPlace) : Type 0 where
  pub wide : has_width (width_of old) place.width ≡ true
  pub after : is_after (last_of old) place.pane ≡ true
  pub width : width_of new ≡ Some place.width
  pub last : last_of new ≡ Some place.pane

abbrev pub MayTake : {R : Type 0} → RowLines R → RowLines R → RowPlace → Result (Unit {0}) RowsFault → Type 0
MayTake old new place (Ok done) = IsLast old new place
MayTake old new place (Err f) = Admits (width_of old) (last_of old) place (Err f)

-- the row of the line, or why it is refused
pub record IsTaken {R : Type 0} (old new : RowLines R) (row : Row) : Type 0 where
  pub is : IsRow row
  pub wide : has_width (width_of old) (length row.values) ≡ true
  pub after : is_after (last_of old) (pane_of row) ≡ true
  pub line : line_in (lines_of old) ≡ text_of_row row
  pub width : width_of new ≡ Some (length row.values)
  pub last : last_of new ≡ Some (pane_of row)

abbrev pub Takes : {R : Type 0} → RowLines R → RowLines R → Result Row RowsFault → Type 0
Takes old new (Ok row) = IsTaken old new row
Takes old new (Err fault.Line) = (row : Row) → IsRow row → has_width (width_of old) (length row.values) ≡ true → line_in (lines_of old) ≢ text_of_row row
Takes old new (Err fault.Order) =
    (row : Row) × IsRow row × (has_width (width_of old) (length row.values) ≡ true) × (is_after (last_of old) (pane_of row) ≡ false) × (line_in (lines_of old) ≡ text_of_row row)
Takes old new (Err fault.Read) = ⊥
Takes old new (Err fault.Memory) = Unit {0}

-- a fault of reading
abbrev pub IsReadFault : RowsFault → Type 0
IsReadFault fault.Read = Unit {0}
IsReadFault fault.Memory = Unit {0}
IsReadFault fault.Line = ⊥
IsReadFault fault.Order = ⊥
