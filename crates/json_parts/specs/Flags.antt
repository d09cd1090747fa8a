-- What a flag of a JSON object says.
use Rattle.std.specs.Prelude.{ℕ, Bool, List, Option, Some}
use Rattle.std.specs.Option.{option_map_or}
use Rattle.serde_json.specs.Data.{Data}
use Rattle.serde_json.specs.Find.{get, as_bool}

-- the flag under a name, or another where no member has the name; None: it is no flag
unfoldable pub flag_or : List ℕ → Bool → Data → Option Bool
flag_or name other d = option_map_or as_bool (get name d) (Some other)
