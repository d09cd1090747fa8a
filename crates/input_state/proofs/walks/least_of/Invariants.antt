use Rattle.std.proofs.Common.{◌≡◌, ◌≤◌, length, drop}
use Rattle.input_state.specs.Inputs.{least}
use Rattle.input_state.proofs.walks.least_of.Given as goal

abbrev pub invariant-loop-k : goal.invariant-loop-k
invariant-loop-k l = record { bound : l.k ≤ length l.marks; low : l.low ≡ least (drop l.k l.marks) }

abbrev pub decreases-loop-k : goal.decreases-loop-k
decreases-loop-k l = l.k
