-- A row as a JSON object.
use Rattle.std.specs.Prelude.{◌≡◌, ℕ, ℤ, List, [], ◌∷◌, ◌++◌, cond, nat_lt}
use Rattle.json.specs.Token.{Token, begin_object, end_object, key, string, number}
use Rattle.json.specs.Print.{print, quoted, token_text}
use Rattle.row_tables.specs.Cells.{Shows}
use Rattle.row_tables.specs.declared.kind.CellKind.{CellKind}
use Rattle.row_tables.specs.declared.kind.CellKind.TheVariants.{Number, Time, Fine, Date, Name}
use Rattle.row_export.specs.Shown.{ShowsRow}

-- what a cell is in JSON: a decimal is a number, and any other text a string
abbrev pub cell_token : CellKind → List ℕ → Token
cell_token (Number places) text = number text
cell_token Time text = string text
cell_token (Fine unit) text = string text
cell_token (Date part) text = string text
cell_token Name text = string text

-- a member for each cell, called by its title
abbrev pub members : List (List ℕ) → List CellKind → List (List ℕ) → List Token
members [] kinds texts = []
members (title ∷ titles) [] texts = []
members (title ∷ titles) (kind ∷ kinds) [] = []
members (title ∷ titles) (kind ∷ kinds) (text ∷ texts) = key title ∷ cell_token kind text ∷ members titles kinds texts

-- the object of a record, in a line of its own
abbrev pub object_line : List (List ℕ) → List CellKind → List (List ℕ) → List ℕ
object_line titles kinds texts = print (begin_object ∷ members titles kinds texts ++ end_object ∷ []) ++ 10 ∷ []

-- the text of a member's key, with its colon
abbrev pub key_text : List ℕ → List ℕ
key_text title = quoted title ++ 58 ∷ []

-- the comma before the member at a place
abbrev pub comma_at : ℕ → List ℕ
comma_at place = cond (nat_lt 0 place) (44 ∷ []) []

-- a text has a value behind it, whose cell shows a number
pub record HasValue (kind : CellKind) (names : List (List ℕ)) (number : ℤ) (before after : List ℕ) : Type 0 where
  pub cell : List ℕ
  pub shown : Shows kind names number cell
  pub text : after ≡ before ++ token_text (cell_token kind cell)

-- a text has a member behind it, called by a key, whose cell shows a number
pub record HasMember (place : ℕ) (key : List ℕ) (kind : CellKind) (names : List (List ℕ)) (number : ℤ) (before after : List ℕ) : Type 0 where
  pub cell : List ℕ
  pub shown : Shows kind names number cell
  pub text : after ≡ before ++ (comma_at place ++ (key ++ token_text (cell_token kind cell)))

-- a text has the members of cells behind it that show the numbers of a row
pub record HasMembers (titles : List (List ℕ)) (kinds : List CellKind) (names : List (List ℕ)) (numbers : List ℤ) (before after : List ℕ) : Type 0 where
  pub cells : List (List ℕ)
  pub shown : ShowsRow kinds names numbers cells
  pub text : after ≡ before ++ print (members titles kinds cells)

-- a line is the object of cells that show the numbers of a row
pub record IsLine (titles : List (List ℕ)) (kinds : List CellKind) (names : List (List ℕ)) (numbers : List ℤ) (line : List ℕ) : Type 0 where
  pub cells : List (List ℕ)
  pub shown : ShowsRow kinds names numbers cells
  pub text : line ≡ object_line titles kinds cells
