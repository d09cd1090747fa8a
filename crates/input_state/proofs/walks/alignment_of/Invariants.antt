use Rattle.std.proofs.Common.{◌≡◌, ◌≤◌, length, drop}
use Rattle.input_state.specs.Inputs.{all_shut, any_held}
use Rattle.input_state.proofs.walks.alignment_of.Given as goal

abbrev pub invariant-loop-k : goal.invariant-loop-k
invariant-loop-k l = record { bound : l.k ≤ length l.shut; all : l.all ≡ all_shut (drop l.k l.shut); any : l.any ≡ any_held (drop l.k l.shut) }

abbrev pub decreases-loop-k : goal.decreases-loop-k
decreases-loop-k l = l.k
