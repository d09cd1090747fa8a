-- What is found in a text.
use Rattle.std.specs.Prelude.{ℕ, ◌≤◌, ◌++◌, ◌∷◌, [], List, All, nat_lt, length, if◌then◌else◌}
use Rattle.text_places.specs.declared.finding.Finding.{Finding}

-- the length of the text in bytes, and the places that were found
pub record FindingsData : Type 0 where
  pub end : ℕ
  pub places : List Finding

-- at most 20 places, each of which lies in the text
abbrev pub AreFindings : FindingsData → Type 0
AreFindings f = (length f.places ≤ 20) × All (λ p. p.offset ≤ f.end) f.places

-- one place more, where there are fewer than 20
abbrev pub with_place : FindingsData → Finding → FindingsData
with_place f p = record { end = f.end; places = if nat_lt (length f.places) 20 then f.places ++ p ∷ [] else f.places }
