-- The lines of a text, one by one.
use Rattle.std.proofs.Common.{◌≡◌, ◌==◌, ◌<◌, ◌∙◌, false, nat_le, ℕ, List, [], ◌∷◌, length, Option, Some, None, option_map, ap, sym, refl, arith}
use mathlib.Core.Logic.{⊎_elim}
use Rattle.std.proofs.lemmas.Bool.{cases_Bool}
use Rattle.std.specs.Prelude.{IfSome}
use Rattle.std.specs.Io.KnownBytes.{IsAtEnd}
use Rattle.std.specs.Io.BufRead.{take_through, drop_through, DropsThrough}
use Rattle.object_lines.specs.Lines.{lines_of, with_front, unmarked, line_said, lines_said}

-- the first line, and those behind it
pub first_line : (b : ℕ) (text : List ℕ) → lines_of (b ∷ text) ≡ take_through 10 (b ∷ text) ∷ lines_of (drop_through 10 (b ∷ text))
unfolding lines_of
first_line b [] = ⊎_elim (λ e. rw e refl) (λ e. rw e refl) (cases_Bool (b == 10))
first_line b (c ∷ text) = ⊎_elim (λ e. rw e refl) (λ e. rw e (ap (with_front b) (first_line c text))) (cases_Bool (b == 10))

no_lines : (number : ℕ) → lines_said number [] ≡ []
unfolding lines_of
no_lines number = refl

-- at the end of a text no line is left
pub at_end : (known : Option (List ℕ)) (number : ℕ) (left : List (List ℕ)) → IsAtEnd known → option_map (lines_said number) known ≡ Some left → left ≡ []
at_end None number left end is = grind arith
at_end (Some text) number left end is =
    let all : lines_said number text ≡ left = grind (arith, is) in
    sym all ∙ ap (lines_said number) end ∙ no_lines number

later : (number : ℕ) (lines : List (List ℕ)) → nat_le number 0 ≡ false → unmarked (nat_le number 0) lines ≡ lines
later number [] is = refl
later number (line ∷ lines) is = rw is refl

-- a line was read, and it is the first of those that were left
pub one_line : (old new : Option (List ℕ)) (number next : ℕ) (line : List ℕ) (left : List (List ℕ)) → nat_le next 1 ≡ nat_le number 0 → nat_le next 0 ≡ false
    → 0 < length line → IfSome old (λ text. line ≡ take_through 10 text) → DropsThrough old new 10 → option_map (lines_said number) old ≡ Some left
    → (more : List (List ℕ)) × (left ≡ line_said next line ∷ more) × (option_map (lines_said next) new ≡ Some more)
one_line None new number next line left first later_on some read rest is = grind arith
one_line (Some []) new number next line left first later_on some read rest is =
    let none : length line ≡ 0 = ap length read in
    absurd (omega arith)
one_line (Some (b ∷ text)) new number next line left first later_on some read rest is =
    let all : lines_said number (b ∷ text) ≡ left = grind (arith, is) in
    let parts : lines_said number (b ∷ text) ≡ line_said next line ∷ lines_of (drop_through 10 (b ∷ text))
    = rw (first, read) (ap (unmarked (nat_le number 0)) (first_line b text)) in
    (lines_of (drop_through 10 (b ∷ text)), sym all ∙ parts, rw rest (ap Some (later next (lines_of (drop_through 10 (b ∷ text))) later_on)))
