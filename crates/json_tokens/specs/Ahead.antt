-- What the tokens that are still to come say.
use Rattle.std.specs.Prelude.{ℕ, List, length, Option}
use Rattle.json.specs.Token.{Token}
use Rattle.json.specs.Json.{items, value}
use Rattle.serde_json.specs.Data.{Data}
use Rattle.serde_json.specs.Read.{of_json, of_items, converted}
use Rattle.json_parts.specs.Parts.{list_of, each}

-- what the next value says, where no more than `depth` lists and objects nest in it, and the tokens behind it
abbrev pub part : {X : Type 0} → (Data → Option X) → ℕ → List Token → Option (X × List Token)
part f depth ts = converted f (converted of_json (value depth ts))

-- what the items up to the closing bracket say, in at most n turns
abbrev pub parts_in : {X : Type 0} → (Data → Option X) → ℕ → ℕ → List Token → Option (List X × List Token)
parts_in f depth n ts = converted (λ ds. each f (list_of ds)) (converted of_items (items (value depth) n ts))

abbrev pub parts : {X : Type 0} → (Data → Option X) → ℕ → List Token → Option (List X × List Token)
parts f depth ts = parts_in f depth (length ts) ts
