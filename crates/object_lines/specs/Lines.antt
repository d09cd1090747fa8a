-- The lines of a text, and the records of those that are objects.
use Rattle.std.specs.Prelude.{◌≡◌, ℕ, ◌-◌, nat_le, ◌==◌, ◌||◌, Bool, true, false, List, [], ◌∷◌, length, take, get_or, Option, Some, None, option_map, Result, Ok, Err, if◌then◌else◌}
use Rattle.std.specs.List.{list_all}
use Rattle.std.specs.Io.Buffered.{reader_remaining}
use Rattle.csv.specs.Reading.{strip_bom}
use Rattle.csv.specs.Records.{fields_of}
use Rattle.asked_fields.specs.declared.asked.AskedField.{AskedField}
use Rattle.object_lines.specs.Records.{IsRead}
use Rattle.object_lines.specs.declared.fault.LineFault.{LineFault}
use Rattle.object_lines.specs.declared.fault.LineFault.TheVariants.{Read, NoObject, Member, Memory}
use Rattle.object_lines.specs.declared.lines.ObjectLines.{ObjectLines}

-- white space of JSON
abbrev pub is_space : ℕ → Bool
is_space b = (b == 32) || ((b == 9) || ((b == 13) || (b == 10)))

abbrev pub is_blank : List ℕ → Bool
is_blank line = list_all is_space line

-- a text without a byte that it may end with
abbrev pub without_last : ℕ → List ℕ → List ℕ
without_last byte text = if get_or text (length text - 1) 0 == byte then take (length text - 1) text else text

-- a line without what ends it: a line feed, and a carriage return before it
abbrev pub bare_line : List ℕ → List ℕ
bare_line line = without_last 13 (without_last 10 line)

-- lines with a byte in front of the first
abbrev pub with_front : ℕ → List (List ℕ) → List (List ℕ)
with_front b [] = (b ∷ []) ∷ []
with_front b (line ∷ lines) = (b ∷ line) ∷ lines

-- the lines of a text, each with the line feed that ends it
unfoldable pub lines_of : List ℕ → List (List ℕ)
lines_of [] = []
lines_of (b ∷ text) = if b == 10 then (b ∷ []) ∷ lines_of text else with_front b (lines_of text)

-- a line without the byte order mark that the first of a text may begin with
abbrev pub unmarked_line : Bool → List ℕ → List ℕ
unmarked_line is_first line = if is_first then strip_bom line else line

-- lines of which the first may be that of a text
abbrev pub unmarked : Bool → List (List ℕ) → List (List ℕ)
unmarked is_first [] = []
unmarked is_first (line ∷ lines) = unmarked_line is_first line ∷ lines

-- the first line that is not blank, and those behind it
unfoldable pub next_line : List (List ℕ) → Option (List ℕ × List (List ℕ))
next_line [] = None
next_line (line ∷ lines) = if is_blank line then next_line lines else Some (line, lines)

-- a line of such a number, counted from 1
abbrev pub line_said : ℕ → List ℕ → List ℕ
line_said number line = unmarked_line (nat_le number 1) line

-- lines of which so many stand before
abbrev pub lines_said : ℕ → List ℕ → List (List ℕ)
lines_said number text = unmarked (nat_le number 0) (lines_of text)

-- the line that was read last
abbrev pub line_in : {R : Type 0} → ObjectLines R → List ℕ
line_in lines = line_said lines.number lines.line.items

-- the lines behind it, where they are known
abbrev pub lines_left : {R : Type 0} → (R → Option (List ℕ)) → ObjectLines R → Option (List (List ℕ))
lines_left remaining lines = option_map (lines_said lines.number) (reader_remaining remaining lines.reader)

-- the next line was read, if there is one
abbrev pub StepsLine : {R : Type 0} → (R → Option (List ℕ)) → List (List ℕ) → ObjectLines R → Bool → Type 0
StepsLine remaining left new false = left ≡ []
StepsLine remaining left new true = (more : List (List ℕ)) × (left ≡ line_in new ∷ more) × (lines_left remaining new ≡ Some more)

-- the fields are those of a line's object, if the line is not blank
abbrev pub FillsLine : List AskedField → List ℕ → List (List ℕ) → Result Bool LineFault → Type 0
FillsLine asked line fields (Ok false) = is_blank line ≡ true
FillsLine asked line fields (Ok true) = (is_blank line ≡ false) × IsRead asked fields line (Ok tt)
FillsLine asked line fields (Err fault) = (is_blank line ≡ false) × IsRead asked fields line (Err fault)

-- a fault is of the text and of no line
abbrev pub IsOfText : LineFault → Type 0
IsOfText Read = Unit {0}
IsOfText Memory = Unit {0}
IsOfText NoObject = ⊥
IsOfText (Member place why) = ⊥

-- the first line that is not blank was read, and this came of it
pub record IsNextLine {R : Type 0} (remaining : R → Option (List ℕ)) (asked : List AskedField) (left : List (List ℕ)) (new : ObjectLines R) (answer : Result (Unit {0}) LineFault) : Type 0 where
  pub more : List (List ℕ)
  pub next : next_line left ≡ Some (line_in new, more)
  pub rest : lines_left remaining new ≡ Some more
  pub read : IsRead asked (fields_of new.record) (line_in new) answer

-- so it is, or there is none, or the text cannot be read
abbrev pub AdvancesLine : {R : Type 0} → (R → Option (List ℕ)) → List AskedField → List (List ℕ) → ObjectLines R → Result Bool LineFault → Type 0
AdvancesLine remaining asked left new (Ok false) = next_line left ≡ None
AdvancesLine remaining asked left new (Ok true) = IsNextLine remaining asked left new (Ok tt)
AdvancesLine remaining asked left new (Err NoObject) = IsNextLine remaining asked left new (Err NoObject)
AdvancesLine remaining asked left new (Err (Member place why)) = IsNextLine remaining asked left new (Err (Member place why))
AdvancesLine remaining asked left new (Err Read) = Unit {0}
AdvancesLine remaining asked left new (Err Memory) = Unit {0}
