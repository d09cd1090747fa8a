use Rattle.std.proofs.Common.{◌≡◌, ◌++◌, drop}
use Rattle.plan_model.proofs.numbers.widened.Given as goal

abbrev pub invariant-loop-narrow : goal.invariant-loop-narrow
invariant-loop-narrow l = l.wide.items ++ drop l.narrow-index l.numbers ≡ l.numbers
