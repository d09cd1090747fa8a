-- What is told of a text.
use Rattle.std.specs.Prelude.{◌≡◌, ◌≤◌, ◌||◌, ◌==◌, ℕ, Bool, true, false, ◌++◌, ◌∷◌, [], List, Option, Some, None, String, string_bytes, take, nat_le, length}
use Rattle.std.specs.List.{list_any}
use Rattle.std.specs.declared.alloc.Global.{Global}
use Rattle.text_places.specs.declared.finding.Finding.{Finding}

-- the places, how many of them are those of requirements before this one, and the fault of this one, where it is not
-- the first
pub record NotesData : Type 0 where
  pub alloc : Global
  pub places : List Finding
  pub settled : ℕ
  pub later : Option (String Global)

-- whether nothing more is told at an offset: there are 20 places, or a requirement before this one has told of it
abbrev pub is_passed : ℕ → NotesData → Bool
is_passed offset n = nat_le 20 (length n.places) || list_any (λ p. p.offset == offset) (take n.settled n.places)

-- what a sentence is told as: behind `also`, the fault and a colon, where there is one
abbrev pub said : Option (String Global) → List ℕ → List ℕ
said None sentence = sentence
said (Some fault) sentence = 97 ∷ 108 ∷ 115 ∷ 111 ∷ 32 ∷ (string_bytes fault ++ (58 ∷ 32 ∷ sentence))

-- one place more, unless nothing more is told there
abbrev pub TellsUnless : Bool → ℕ → List ℕ → NotesData → NotesData → Type 0
TellsUnless true offset sentence old new = new ≡ old
TellsUnless false offset sentence old new =
    (words : String Global) × (string_bytes words ≡ said old.later sentence) × (new ≡ record { alloc = old.alloc; places = old.places ++ record { offset = offset; sentence = words } ∷ []; settled = old.settled; later = old.later })

abbrev pub Tells : ℕ → List ℕ → NotesData → NotesData → Type 0
Tells offset sentence old new = TellsUnless (is_passed offset old) offset sentence old new

-- the same of some sentence
abbrev pub TellsAt : ℕ → NotesData → NotesData → Type 0
TellsAt offset old new = (sentence : List ℕ) × Tells offset sentence old new

-- the places that were told stand, and more may stand behind them
abbrev pub TellsMore : NotesData → NotesData → Type 0
TellsMore old new = (length old.places ≤ length new.places) × (take (length old.places) new.places ≡ old.places)
