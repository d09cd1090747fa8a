-- What changed between two lists of rows.
use Rattle.std.specs.Prelude.{◌≡◌, ◌==◌, ℕ, ℤ, ◌-ℤ◌, Bool, true, false, ◌&&◌, List, [], ◌∷◌, ◌++◌, length, Option, Some, None, if◌then◌else◌}
use Rattle.std.specs.List.{flat_map, zip, filter, find}
use Rattle.std.specs.Option.{option_to_list}
use Rattle.std.specs.Ordering.{int_eq}
use Rattle.plan_model.specs.declared.spec.Pane.{Pane}
use Rattle.plan_model.specs.declared.spec.Row.{Row}
use Rattle.plan_model.specs.Rows.{pane_of, row_is_at}
use Rattle.row_lines.specs.Text.{spaced, head_of, line_of}
use Rattle.row_lines.specs.Sequences.{is_after}

-- the same numbers
abbrev pub numbers_eq : List ℤ → List ℤ → Bool
numbers_eq [] [] = true
numbers_eq [] (y ∷ ys) = false
numbers_eq (x ∷ xs) [] = false
numbers_eq (x ∷ xs) (y ∷ ys) = int_eq x y && numbers_eq xs ys

-- a row that is gone, one that is new, one whose window has another end, or one with other numbers. Rows with more or
-- fewer numbers are told as those with another end
pub data Change : Type 0 where
  Gone : Row → Change
  New : Row → Change
  Replaced : Row → Row → Change
  Changed : Row → Row → Change

-- windows have the same end, and rows as many numbers
abbrev pub are_alike : Row → Row → Bool
are_alike old new = int_eq old.end new.end && (length old.values == length new.values)

-- what comes of the rows at one start and key
abbrev pub change_of : Option Row → Option Row → Option Change
change_of None None = None
change_of (Some old) None = Some (Gone old)
change_of None (Some new) = Some (New new)
change_of (Some old) (Some new) =
    if are_alike old new then (if numbers_eq old.values new.values then None else Some (Changed old new))
    else Some (Replaced old new)

-- an old number, the new one and the difference
abbrev pub beside : ℤ × ℤ → List ℕ
beside p = spaced p.0 ++ spaced p.1 ++ spaced (p.1 -ℤ p.0)

abbrev pub gone_line : Row → List ℕ
gone_line row = 45 ∷ 32 ∷ line_of row

abbrev pub new_line : Row → List ℕ
new_line row = 43 ∷ 32 ∷ line_of row

-- the lines of a change: a hyphen and the old row, a plus and the new one, or a tilde, the window, the key, and the
-- numbers beside one another
abbrev pub lines_of : Change → List ℕ
lines_of (Gone row) = gone_line row
lines_of (New row) = new_line row
lines_of (Replaced old new) = gone_line old ++ new_line new
lines_of (Changed old new) =
    126 ∷ 32 ∷ (head_of old ++ flat_map beside (zip old.values new.values) ++ 10 ∷ [])

abbrev pub text_of_changes : List Change → List ℕ
text_of_changes changes = flat_map lines_of changes

-- where a change is
abbrev pub place_of : Change → Pane
place_of (Gone row) = pane_of row
place_of (New row) = pane_of row
place_of (Replaced old new) = pane_of old
place_of (Changed old new) = pane_of old

abbrev pub is_at : Pane → Change → Bool
is_at q change = int_eq (place_of change).start q.start && int_eq (place_of change).key q.key

-- each change is behind the one before, by start and then key
abbrev pub AreInOrder : Option Pane → List Change → Type 0
AreInOrder last [] = Unit {0}
AreInOrder last (change ∷ changes) = (is_after last (place_of change) ≡ true) × AreInOrder (Some (place_of change)) changes

-- the changes are in order, and at each start and key just what comes of the rows there
pub record AreChanges (last : Option Pane) (olds news : List Row) (changes : List Change) : Type 0 where
  pub ordered : AreInOrder last changes
  pub just : (q : Pane) → filter (is_at q) changes ≡ option_to_list (change_of (find (row_is_at q) olds) (find (row_is_at q) news))
