-- To which part a row goes.
use Rattle.std.specs.Prelude.{ℕ, ℤ, List, ◌∷◌}
use Rattle.plain_data.specs.Record.{at}
use Rattle.key_groups.specs.Groups.{key_group}
use Rattle.key_groups.specs.Ranges.{group_owner}
use Rattle.dealt_texts.specs.declared.dealing.Dealing.{Dealing}

-- the part at whose place a subtask owns the group of a key
abbrev pub owner_of_key : Dealing → ℤ → ℕ
owner_of_key dealing key = group_owner dealing.max dealing.parts (key_group dealing.max key)

-- the part of a row
abbrev pub owner_of : Dealing → ℤ → List ℤ → ℕ
owner_of dealing first others = owner_of_key dealing (at dealing.key (first ∷ others))
