-- What stands in a value of a text.
use Rattle.std.specs.Prelude.{◌≡◌, ◌<◌, ◌⊎◌, ◌&&◌, ℕ, ℤ, int_le, Bool, false, List, [], drop, All, Option, Some, None}
use Rattle.std.specs.Str.Parse.{signed_digits_value}
use Rattle.json.specs.declared.token.Token.{Token}
use Rattle.json.specs.declared.token.Token.TheVariants.{String, Number}
use Rattle.text_places.specs.declared.part.Part.{Part}
use Rattle.text_places.specs.declared.part.Placed.{Placed}
use Rattle.text_places.specs.Parts.{IsPartOf}

-- the token is of a number, whose digits make this one
abbrev pub IsWhole : ℤ → Token → Type 0
IsWhole number (Number text) = number ≡ signed_digits_value 10 text.now
IsWhole number _ = ⊥

-- the text that a token is of
abbrev pub text_in : Token → Option (List ℕ)
text_in (String text) = Some text.now
text_in _ = None

-- a value that an object has under a name
abbrev pub IsMember : Placed → List ℕ → Placed → Type 0
IsMember object name value = (part : Part) × IsPartOf object.spots.now part × (part.name.now ≡ name) × (part.value ≡ value)

-- what stands in the list or the object that an object has under a name, or nothing
abbrev pub AreItems : Placed → List ℕ → List Part → Type 0
AreItems object name items = (items ≡ []) ⊎ ((list : Placed) × IsMember object name list × All (IsPartOf list.spots.now) items)

-- a number is there, and lies between two
abbrev pub is_within : ℤ → ℤ → Option ℤ → Bool
is_within least most (Some number) = int_le least number && int_le number most
is_within least most None = false

-- what stands in a list behind one of its items, or nothing
abbrev pub IsBehind : {X : Type 0} → List X → List X → Type 0
IsBehind all behind = (place : ℕ) × (0 < place) × (behind ≡ drop place all)
