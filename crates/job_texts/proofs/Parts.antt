-- Reading parts one after the other, as a loop does.
use Rattle.std.proofs.Common.{List, ◌++◌, Option, option_map}

-- what was read before, and what is still read
abbrev pub with_front : {X : Type 0} → List X → Option (List X) → Option (List X)
with_front front rest = option_map (λ xs. front ++ xs) rest
