-- What the members of an object say, where the reader does not know their names beforehand.
use Rattle.std.specs.Prelude.{ℕ, List, [], ◌∷◌, Option, Some}
use Rattle.serde_json.specs.Data.{Data, Members, no_members, member}
use Rattle.serde_json.specs.Find.{as_object}
use Rattle.json_parts.specs.Parts.{◌>>=◌}

-- each member's name, and what its value says, in order
abbrev pub each_member : {X : Type 0} → (Data → Option X) → Members → Option (List (List ℕ × X))
each_member f no_members = Some []
each_member f (member name d ms) = do
  x ← f d
  rest ← each_member f ms
  Some ((name, x) ∷ rest)

-- the same of an object
unfoldable pub members_text : {X : Type 0} → (Data → Option X) → Data → Option (List (List ℕ × X))
members_text f d = do
  ms ← as_object d
  each_member f ms
