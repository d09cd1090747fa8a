-- The values of the members of a name, found member by member.
use Rattle.std.proofs.Common.{List, ◌∷◌, Option, Some, None}
use Rattle.std.specs.Borrow.{Bor}
use Rattle.json.specs.Json.{Json}
use Rattle.json.specs.Value.{value_view}
use Rattle.json.specs.declared.value.Value.{Value}

-- the value that was found, if there is one, with those of further members
abbrev pub with_found : {A : Type 0} → Option (Bor (Value A)) → List Json → List Json
with_found None more = more
with_found (Some v) more = value_view v.now ∷ more
