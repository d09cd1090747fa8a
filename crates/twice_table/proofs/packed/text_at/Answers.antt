use Rattle.std.proofs.Common.{arith}
use Rattle.std.proofs.lemmas.Grind.{common_steps}
use Rattle.twice_table.proofs.Cuts.{ends_at, cut_at}
use Rattle.twice_table.proofs.packed.text_at.Goals as goal

pub between-requires-clause-order : goal.between-requires-clause-order
between-requires-clause-order c = grind (arith, common_steps, ends_at)

pub between-requires-clause-within : goal.between-requires-clause-within
between-requires-clause-within c = grind (arith, common_steps, ends_at)

pub returns : goal.returns
returns c = grind (arith, common_steps, cut_at)
