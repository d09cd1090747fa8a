use Rattle.std.proofs.Common.{sym}
use Rattle.aggregates.proofs.Accs.{other_lengths}
use Rattle.aggregates.proofs.numbers.are_numbers.Goals as goal

pub returns-then-kinds-numbers : goal.returns-then-kinds-numbers
returns-then-kinds-numbers c = sym (other_lengths c.args.count c.args.kinds.now c.args.numbers.now (λ e. c.if-kinds-numbers.true e))
