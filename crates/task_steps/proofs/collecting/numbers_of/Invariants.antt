use Rattle.std.proofs.Common.{◌≡◌, take}
use Rattle.task_steps.proofs.collecting.numbers_of.Given as goal

abbrev pub invariant-loop-place : goal.invariant-loop-place
invariant-loop-place l = l.numbers ≡ take l.place l.values
