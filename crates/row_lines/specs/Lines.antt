-- The lines of a text.
use Rattle.std.specs.Prelude.{◌≡◌, ◌≢◌, ◌<◌, ℕ, ◌-◌, List, [], ◌∷◌, ◌++◌, length, take, drop, slice_index, slice_range, Option, Some, None, option_map, IfSome}
use Rattle.std.specs.List.{All}
use Rattle.std.specs.Io.KnownBytes.{Consumes, Keeps, IsAtEnd}
use Rattle.row_lines.specs.declared.lines.Lines.{Lines}
use Rattle.row_lines.specs.declared.lines.Step.{Step}
use Rattle.row_lines.specs.declared.lines.Step.TheVariants.{Line, NoLine, End}
use Rattle.row_lines.specs.declared.lines.TheConstants.{LONGEST_LINE}

-- what is held behind the line
abbrev pub held_of : {R : Type 0} → Lines R → List ℕ
held_of lines = drop lines.end lines.held.items

-- what was not read yet
abbrev pub lines_rest : {R : Type 0} → (R → Option (List ℕ)) → Lines R → Option (List ℕ)
lines_rest remaining lines = remaining lines.input

-- what stands behind the line, where it is known
abbrev pub lines_left : {R : Type 0} → (R → Option (List ℕ)) → Lines R → Option (List ℕ)
lines_left remaining lines = option_map (λ rest. held_of lines ++ rest) (remaining lines.input)

-- the line, without its line feed
abbrev pub line_in : {R : Type 0} → Lines R → List ℕ
line_in lines = slice_range lines.held.items lines.start (lines.end - 1)

-- no line feed stands in a text
abbrev pub IsOneLine : List ℕ → Type 0
IsOneLine text = All (λ b. b ≢ 10) text

-- the text before a place has no line feed, and one stands there; or it has none at all
abbrev pub IsPlace : List ℕ → Option ℕ → Type 0
IsPlace text None = IsOneLine text
IsPlace text (Some place) = (place < length text) × IsOneLine (take place text) × (slice_index text place ≡ 10)

-- a line was read, with its line feed; or there is nothing, or no line feed soon enough
abbrev pub IsStep : Step → Option (List ℕ) → Option (List ℕ) → List ℕ → Type 0
IsStep Line old new line = Consumes old new (line ++ 10 ∷ []) × IsOneLine line
IsStep NoLine old new line = IfSome old (λ text. (text ≢ []) × IsOneLine (take LONGEST_LINE text))
IsStep End old new line = Keeps old new × IsAtEnd old
