-- Two texts of rows that are gone through together.
use Rattle.std.specs.Prelude.{◌≡◌, ◌≢◌, ℕ, true, List, [], ◌∷◌, ◌++◌, length, Option, Some, None, IfSome, Result, Ok, Err, String, string_bytes}
use Rattle.std.specs.Io.KnownBytes.{Appends}
use Rattle.std.specs.declared.alloc.Global.{Global}
use Rattle.plan_model.specs.declared.spec.Pane.{Pane}
use Rattle.plan_model.specs.declared.spec.Row.{Row}
use Rattle.plan_model.specs.Rows.{pane_of}
use Rattle.row_lines.specs.Text.{text_of_rows}
use Rattle.row_lines.specs.Rows.{IsRow}
use Rattle.row_lines.specs.Sequences.{is_after, AreRows, rows_left, width_of, last_of, IsNext}
use Rattle.row_lines.specs.declared.rows.RowLines.{RowLines}
use Rattle.row_changes.specs.Changes.{Change, AreChanges, text_of_changes}
use Rattle.row_changes.specs.declared.writing.Pair.{Pair}

-- a text, where it is known, is that of rows
abbrev pub IsTextOf : Option (List ℕ) → List Row → Type 0
IsTextOf text rows = IfSome text (λ bytes. bytes ≡ text_of_rows rows)

-- how many numbers the first row has, if there is one
abbrev pub first_width : List Row → Option ℕ
first_width [] = None
first_width (row ∷ rows) = Some (length row.values)

-- two texts are of rows, alike and in order, and what is written is just what changed between them
pub record WritesChanges (old new before after : Option (List ℕ)) : Type 0 where
  pub olds : List Row
  pub news : List Row
  pub changes : List Change
  pub old_rows : AreRows None None olds
  pub new_rows : AreRows (first_width olds) None news
  pub old_text : IsTextOf old olds
  pub new_text : IsTextOf new news
  pub just : AreChanges None olds news changes
  pub written : Appends before after (text_of_changes changes)

-- these rows are left: one that was read, and those behind it
pub record IsLeft {R : Type 0} (remaining : R → Option (List ℕ)) (rows : RowLines R) (row : Row) (left : List Row) : Type 0 where
  pub behind : List Row
  pub are : left ≡ row ∷ behind
  pub is : IsRow row
  pub rows_are : AreRows (Some (length row.values)) (Some (pane_of row)) behind
  pub text : IsTextOf (rows_left remaining rows) behind
  pub last : last_of rows ≡ Some (pane_of row)
  pub width : width_of rows ≡ Some (length row.values)

-- or none is
abbrev pub AreLeft : {R : Type 0} → (R → Option (List ℕ)) → RowLines R → Option Row → List Row → Type 0
AreLeft remaining rows None left = left ≡ []
AreLeft remaining rows (Some row) left = IsLeft remaining rows row left

-- the row at hand is the one that was read last, and behind the last place
pub record IsAtHand {R : Type 0} (last : Option Pane) (rows : RowLines R) (row : Row) : Type 0 where
  pub after : is_after last (pane_of row) ≡ true
  pub is : IsRow row
  pub last_is : last_of rows ≡ Some (pane_of row)
  pub width_is : width_of rows ≡ Some (length row.values)

abbrev pub IsBehind : {R : Type 0} → Option Pane → RowLines R → Option Row → Type 0
IsBehind last rows None = Unit {0}
IsBehind last rows (Some row) = IsAtHand last rows row

-- what is left of both texts
pub record AreBothLeft {R S : Type 0} (r : R → Option (List ℕ)) (s : S → Option (List ℕ)) (pair : Pair R S) (olds news : List Row) : Type 0 where
  pub old : AreLeft r pair.olds pair.old_row olds
  pub new : AreLeft s pair.news pair.new_row news

pub record AreBehind {R S : Type 0} (last : Option Pane) (pair : Pair R S) : Type 0 where
  pub old : IsBehind last pair.olds pair.old_row
  pub new : IsBehind last pair.news pair.new_row

-- the rows that are left are those of the texts
abbrev pub Begins : {R S : Type 0} → (R → Option (List ℕ)) → (S → Option (List ℕ)) → Option (List ℕ) → Option (List ℕ) → Pair R S → Type 0
Begins r s old new pair = (olds news : List Row) → AreBothLeft r s pair olds news
    → AreRows None None olds × AreRows (first_width olds) None news × IsTextOf old olds × IsTextOf new news

-- the old row was passed
pub record PassesOld {R S : Type 0} (r : R → Option (List ℕ)) (old new : Pair R S) : Type 0 where
  pub next : IsNext r old.olds new.olds (Ok new.old_row)
  pub news : new.news ≡ old.news
  pub row : new.new_row ≡ old.new_row

pub record PassesNew {R S : Type 0} (s : S → Option (List ℕ)) (old new : Pair R S) : Type 0 where
  pub next : IsNext s old.news new.news (Ok new.new_row)
  pub olds : new.olds ≡ old.olds
  pub row : new.old_row ≡ old.old_row

pub record PassesBoth {R S : Type 0} (r : R → Option (List ℕ)) (s : S → Option (List ℕ)) (old new : Pair R S) : Type 0 where
  pub old_next : IsNext r old.olds new.olds (Ok new.old_row)
  pub new_next : IsNext s old.news new.news (Ok new.new_row)

-- what is done before what is left, and what is left before it was done
pub record IsStep {R S : Type 0} (r : R → Option (List ℕ)) (s : S → Option (List ℕ)) (last next : Option Pane) (old new : Pair R S) (before after : List ℕ) (olds news : List Row) (changes : List Change) : Type 0 where
  pub all_olds : List Row
  pub all_news : List Row
  pub all : List Change
  pub left : AreBothLeft r s old all_olds all_news
  pub just : AreChanges last all_olds all_news all
  pub text : after ++ text_of_changes changes ≡ before ++ text_of_changes all

pub record Steps {R S : Type 0} (r : R → Option (List ℕ)) (s : S → Option (List ℕ)) (last : Option Pane) (old new : Pair R S) (before after : List ℕ) : Type 0 where
  pub next : Option Pane
  pub behind : AreBehind next new
  pub step : (olds news : List Row) (changes : List Change) → AreBothLeft r s new olds news → AreChanges next olds news changes → IsStep r s last next old new before after olds news changes

abbrev pub NothingLeft : {R S : Type 0} → Pair R S → Type 0
NothingLeft pair = (pair.old_row ≡ None) × (pair.new_row ≡ None)
