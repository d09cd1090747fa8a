-- What the bytes of a text say of the tokens that are still to come.
use Rattle.std.specs.Prelude.{◌≡◌, ℕ, ◌<◌, ℤ, Bool, true, false, ◌||◌, ◌==◌, List, ◌∷◌, length, take, drop, Some, option_and_then}
use Rattle.std.specs.List.{prefix_len}
use Rattle.std.specs.Char.{is_ascii_digit}
use Rattle.std.specs.Str.Parse.{digits_value}
use Rattle.json.specs.Token.{Token, number, string}
use Rattle.json.specs.Word.{head, is_space}
use Rattle.json.specs.Lex.{between, lex, token, colon, Place, fresh, after_value, may_begin, punctuate}
use Rattle.serde_json.specs.Read.{number_of}
use Rattle.serde_json.specs.Find.{as_i64}

abbrev pub place : Bool → Place
place true = after_value
place false = fresh

-- the tokens of the text, behind a value or not
abbrev pub tokens_from : Bool → List ℕ → List Token
tokens_from behind_value text = punctuate (place behind_value) (lex between text)

-- the text goes on where the next value or name begins
abbrev pub Begins : List Token → List ℕ → Type 0
Begins ts text = (p : Place) × (may_begin p ≡ true) × (ts ≡ punctuate p (lex between text))

-- a byte that may stand behind a number
abbrev pub ends_number : ℕ → Bool
ends_number c = (c == 44) || (c == 93) || (c == 125) || is_space c

-- the text begins with digits that write this number, and with no zero before another digit
pub record BeginsDigits (text : List ℕ) (value : ℕ) (rest : List ℕ) : Type 0 where
  pub count : ℕ
  pub counted : count ≡ prefix_len is_ascii_digit text
  pub some : 0 < count
  pub no_zero : head text ≡ 48 → count ≡ 1
  pub over : rest ≡ drop count text
  pub ends : ends_number (head rest) ≡ true
  pub says : value ≡ digits_value 10 (take count text)

-- so many digits come first in the text, and no more, and write that number
pub record ComeFirst (text : List ℕ) (digits : ℕ × ℕ) : Type 0 where
  pub more : digits.0 < length text
  pub counted : digits.0 ≡ prefix_len is_ascii_digit text
  pub says : digits.1 ≡ digits_value 10 (take digits.0 text)

-- the text begins with a whole number
abbrev pub BeginsWhole : List ℕ → ℤ → List ℕ → Type 0
BeginsWhole text n rest = (s : List ℕ) × (lex between text ≡ token (number s) ∷ lex between rest) × (option_and_then as_i64 (number_of s) ≡ Some n)

-- the text begins with an item of a list, a whole number, and the mark behind it
abbrev pub BeginsItem : List ℕ → ℕ → ℤ → List ℕ → Type 0
BeginsItem text mark n rest = (behind : List ℕ) × BeginsWhole text n behind × (lex between behind ≡ lex between (mark ∷ rest))

-- the text begins with a name and its colon
abbrev pub BeginsName : List ℕ → List ℕ → List ℕ → Type 0
BeginsName text name rest = lex between text ≡ token (string name) ∷ colon ∷ lex between rest
