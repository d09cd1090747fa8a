-- Texts of rows that are merged.
use Rattle.std.specs.Prelude.{◌≡◌, ℕ, ◌<◌, cond, true, false, List, [], ◌∷◌, ◌++◌, length, Option, Some, None, is_some, slice_index_or}
use Rattle.std.specs.List.{All, AllZip, flat_map}
use Rattle.std.specs.List.Sorted.{IsPermutation}
use Rattle.std.specs.Ordering.{is_gt}
use Rattle.std.specs.Io.KnownBytes.{Appends}
use Rattle.plan_model.specs.declared.spec.Pane.{Pane}
use Rattle.plan_model.specs.declared.spec.Row.{Row}
use Rattle.plan_model.specs.Rows.{pane_of, pane_cmp}
use Rattle.row_lines.specs.Lines.{line_in}
use Rattle.row_lines.specs.Text.{text_of_row, line_of, text_of_rows}
use Rattle.row_lines.specs.Rows.{IsRow, place_of}
use Rattle.row_lines.specs.Sequences.{has_width, is_after, lines_of, AreRows}
use Rattle.row_lines.specs.declared.place.RowPlace.{RowPlace}
use Rattle.row_lines.specs.declared.rows.RowLines.{RowLines}
use Rattle.row_lines.specs.declared.rows.RowsFault.{RowsFault}
use Rattle.row_lines.specs.declared.rows.RowsFault.TheVariants as rows
use Rattle.row_changes.specs.Merging.{IsTextOf, IsLeft, IsAtHand}
use Rattle.row_merges.specs.declared.fault.MergeFault.{MergeFault}
use Rattle.row_merges.specs.declared.fault.MergeFault.TheVariants.{Text, Memory}
use Rattle.row_merges.specs.declared.head.Head.{Head}
use Rattle.row_merges.specs.declared.merge.Merge.{Merge}

-- a text is that of these rows, which are alike and each behind the one before
abbrev pub IsRowsText : Option (List ℕ) → List Row → Type 0
IsRowsText text rows = AreRows None None rows × IsTextOf text rows

-- all rows of lists, one list after the other
abbrev pub rows_in : List (List Row) → List Row
rows_in lists = flat_map (λ rows. rows) lists

-- texts are of rows, and what is written are the lines of them all, of rows that are alike and each behind the one
-- before
pub record MergesRows (texts : List (Option (List ℕ))) (before after : Option (List ℕ)) : Type 0 where
  pub lists : List (List Row)
  pub rows : List Row
  pub of_texts : AllZip IsRowsText texts lists
  pub all : IsPermutation (rows_in lists) rows
  pub ordered : AreRows None None rows
  pub written : Appends before after (text_of_rows rows)

-- a fault of the text at a place, at a line; or memory ran out
abbrev pub TellsOf : ℕ → ℕ → RowsFault → MergeFault → Type 0
TellsOf place line rows.Memory told = told ≡ Memory
TellsOf place line rows.Read told = told ≡ Text place rows.Read line
TellsOf place line rows.Line told = told ≡ Text place rows.Line line
TellsOf place line rows.Order told = told ≡ Text place rows.Order line

-- ---- what is left of texts

-- these rows are left: that of the line that was read last, and those behind it
pub record AreLeftFrom {R : Type 0} (remaining : R → Option (List ℕ)) (rows : RowLines R) (left : List Row) : Type 0 where
  pub row : Row
  pub line : line_in (lines_of rows) ≡ text_of_row row
  pub is_left : IsLeft remaining rows row left

-- or none is
abbrev pub AreLeftAt : {R : Type 0} → (R → Option (List ℕ)) → RowLines R → Option RowPlace → List Row → Type 0
AreLeftAt remaining rows None left = left ≡ []
AreLeftAt remaining rows (Some place) left = AreLeftFrom remaining rows left

-- the line that was read last is that of the row at hand
pub record IsLastRead {R : Type 0} (rows : RowLines R) (place : RowPlace) : Type 0 where
  pub row : Row
  pub place_is : place ≡ place_of row
  pub line : line_in (lines_of rows) ≡ text_of_row row
  pub at_hand : IsAtHand None rows row

abbrev pub IsReadAt : {R : Type 0} → RowLines R → Option RowPlace → Type 0
IsReadAt rows None = Unit {0}
IsReadAt rows (Some place) = IsLastRead rows place

-- the rows that are left of a text of which the first row was read are those of the text
pub record IsOpened {R : Type 0} (remaining : R → Option (List ℕ)) (text : Option (List ℕ)) (head : Head R) : Type 0 where
  pub rows : (left : List Row) → AreLeftAt remaining head.rows head.row left → IsRowsText text left
  pub behind : IsReadAt head.rows head.row

abbrev pub AreAllLeft : {R : Type 0} → (R → Option (List ℕ)) → List (Head R) → List (List Row) → Type 0
AreAllLeft remaining heads lists = AllZip (λ head left. AreLeftAt remaining head.rows head.row left) heads lists

-- each row at hand is the one that was read last of its text
abbrev pub AreBehind : {R : Type 0} → List (Head R) → Type 0
AreBehind heads = All (λ head. IsReadAt head.rows head.row) heads

abbrev pub AreAllBehind : {R : Type 0} → Merge R → Type 0
AreAllBehind merge = AreBehind merge.heads.items

-- the line of the row at hand, if there is one
abbrev pub line_at_hand : {R : Type 0} → Head R → List ℕ
line_at_hand head = cond (is_some head.row) (line_in (lines_of head.rows) ++ 10 ∷ []) []

abbrev pub pane_in : RowPlace → Pane
pane_in place = place.pane

-- these are the texts, of which no row was passed
pub record HoldsTexts {R : Type 0} (remaining : R → Option (List ℕ)) (texts : List (Option (List ℕ))) (merge : Merge R) : Type 0 where
  pub rows : (lists : List (List Row)) → AreAllLeft remaining merge.heads.items lists → AllZip IsRowsText texts lists
  pub behind : AreAllBehind merge
  pub width : merge.width ≡ None
  pub last : merge.last ≡ None

-- the text at a place has a row at hand
abbrev pub HasRowAt : {R : Type 0} → List (Head R) → ℕ → Type 0
HasRowAt {R} heads place = (place < length heads) × ((d : Head R) → (row : RowPlace) × ((slice_index_or heads place d).row ≡ Some row))

-- a row, if there is one, is not before a place
abbrev pub IsUpTo : Pane → Option RowPlace → Type 0
IsUpTo first None = Unit {0}
IsUpTo first (Some row) = is_gt (pane_cmp first row.pane) ≡ false

-- and no row at hand of another text is before that one
abbrev pub IsFirst : {R : Type 0} → List (Head R) → ℕ → Type 0
IsFirst {R} heads place = (d : Head R) (row : RowPlace) → (slice_index_or heads place d).row ≡ Some row → (k : ℕ) → k < length heads → IsUpTo row.pane (slice_index_or heads k d).row

-- and that row may be the next one
pub record IsAdmitted {R : Type 0} (merge : Merge R) (place : ℕ) (row : RowPlace) : Type 0 where
  pub at_hand : (d : Head R) → (slice_index_or merge.heads.items place d).row ≡ Some row
  pub wide : has_width merge.width row.width ≡ true
  pub after : is_after merge.last row.pane ≡ true

-- all rows that were left before are those that are left and one more
pub record AreBefore {R : Type 0} (remaining : R → Option (List ℕ)) (heads : List (Head R)) (row : Row) (lists : List (List Row)) : Type 0 where
  pub all : List (List Row)
  pub left : AreAllLeft remaining heads all
  pub same : IsPermutation (rows_in all) (row ∷ rows_in lists)

-- a row was passed
pub record Steps {R : Type 0} (remaining : R → Option (List ℕ)) (old new : Merge R) (before after : List ℕ) : Type 0 where
  pub row : Row
  pub is : IsRow row
  pub wide : has_width old.width (length row.values) ≡ true
  pub next : is_after old.last (pane_of row) ≡ true
  pub width : new.width ≡ Some (length row.values)
  pub last : new.last ≡ Some (pane_of row)
  pub text : after ≡ before ++ line_of row
  pub left : (lists : List (List Row)) → AreAllLeft remaining new.heads.items lists → AreBefore remaining old.heads.items row lists
  pub behind : AreAllBehind new

abbrev pub NothingLeft : {R : Type 0} → Merge R → Type 0
NothingLeft merge = All (λ head. head.row ≡ None) merge.heads.items
