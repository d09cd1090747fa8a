use Rattle.std.proofs.Common.{arith}
use Rattle.std.proofs.lemmas.Int.{ints}
use Rattle.restart_places.proofs.entries.is_reached.Goals as goal

pub returns-then-window-start : goal.returns-then-window-start
returns-then-window-start c = grind (arith, ints)

pub returns-else-window-start : goal.returns-else-window-start
returns-else-window-start c = grind (arith, ints)
