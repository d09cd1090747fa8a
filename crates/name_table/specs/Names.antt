-- Names by their numbers.
use Rattle.std.specs.Prelude.{ℕ, ◌+◌, List, [], ◌∷◌, ◌++◌, map, bytes_eq, String, string_bytes, if◌then◌else◌}
use Rattle.std.specs.List.{position_or_len, list_any}
use Rattle.std.specs.declared.alloc.Global.{Global}
use Rattle.std.specs.declared.hash.RandomState.{RandomState}
use Rattle.indexmap.specs.IndexSet.{IndexSet}

-- the names that a set holds, in order
abbrev pub texts : IndexSet (String Global) RandomState → List (List ℕ)
texts s = map string_bytes s.keys

-- the number of a name: its place, counted from 1, or the next number where it is not there
abbrev pub number_said : List (List ℕ) → List ℕ → ℕ
number_said names name = position_or_len (bytes_eq name) names + 1

-- the names with one that may be there already
abbrev pub with_name : List (List ℕ) → List ℕ → List (List ℕ)
with_name names name = if list_any (bytes_eq name) names then names else names ++ name ∷ []
