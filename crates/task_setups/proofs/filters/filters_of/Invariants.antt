use Rattle.std.proofs.Common.{◌≡◌, take}
use Rattle.task_setups.specs.Setups.{filters_of}
use Rattle.task_setups.proofs.filters.filters_of.Given as goal

abbrev pub invariant-loop-operator : goal.invariant-loop-operator
invariant-loop-operator l = l.filters.items ≡ filters_of l.plan (take l.operator-index l.operators)
