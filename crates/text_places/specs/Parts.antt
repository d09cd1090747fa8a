-- The values in a list or an object, over the tokens from where it begins.
use Rattle.std.specs.Prelude.{◌≡◌, ℕ, ◌+◌, ◌-◌, Bool, true, false, not, ◌||◌, List, take, drop, fold, Some, slice_get, if◌then◌else◌}
use Rattle.json.specs.declared.token.Token.{Token}
use Rattle.json.specs.declared.token.Token.TheVariants.{BeginObject, EndObject, BeginArray, EndArray, Key}
use Rattle.text_places.specs.declared.spot.Spot.{Spot}
use Rattle.text_places.specs.declared.part.Part.{Part}

-- a token that opens a list or an object, one that closes it, and a name
abbrev pub is_opening : Token → Bool
is_opening BeginObject = true
is_opening BeginArray = true
is_opening _ = false

abbrev pub is_closing : Token → Bool
is_closing EndObject = true
is_closing EndArray = true
is_closing _ = false

abbrev pub is_name : Token → Bool
is_name (Key _) = true
is_name _ = false

-- how many lists and objects are open behind a token, where so many are open before it
abbrev pub level_after : ℕ → Token → ℕ
level_after level token = if is_opening token then level + 1 else if is_closing token then level - 1 else level

-- how many of them are open before the token at a place
abbrev pub level_at : ℕ → List Spot → ℕ
level_at place spots = fold (λ level s. level_after level s.token) 0 (take place spots)

-- a token with which a value begins
abbrev pub is_beginning : Token → Bool
is_beginning token = not (is_closing token || is_name token)

-- the part's value stands in the list or the object with which the tokens begin, and not deeper
abbrev pub IsPartOf : List Spot → Part → Type 0
IsPartOf spots p =
    (place : ℕ) × (level_at place spots ≡ 1) × (is_beginning p.value.token ≡ true) × (slice_get spots place ≡ Some (record { token = p.value.token; offset = p.value.offset }))
    × (p.value.spots.now ≡ drop place spots)
