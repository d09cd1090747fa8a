-- Records that are told apart by some of their fields.
use Rattle.std.specs.Prelude.{◌≡◌, ◌<◌, ◌^◌, ◌↔◌, ℕ, List, length, map}
use Rattle.std.specs.List.{All}
use Rattle.imports.specs.Rows.{column_text}
use Rattle.known_records.specs.Known.{key_said}

-- the texts of columns in a record whose fields stand at these places
abbrev pub texts_said : List ℕ → List ℕ → List (List ℕ) → List (List ℕ)
texts_said columns places fields = map (column_text places fields) columns

-- each text has less than 2^64 bytes
abbrev pub AreShort : List (List ℕ) → Type 0
AreShort texts = All (λ text. length text < 2 ^ 64) texts

-- what tells two records apart is the same just where the texts of all these columns are
abbrev pub KeysTell : Type 0
KeysTell = (columns places others : List ℕ) (fields more : List (List ℕ)) → AreShort (texts_said columns places fields) → AreShort (texts_said columns others more)
    → (key_said columns places fields ≡ key_said columns others more) ↔ (texts_said columns places fields ≡ texts_said columns others more)
