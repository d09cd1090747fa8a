use Rattle.std.proofs.Common.{◌≡◌, ◌+◌, ◌%◌, take}
use Rattle.std.specs.List.{sum}
use Rattle.leg_runs.proofs.schedule.chosen.Given as goal

abbrev pub invariant-loop-task : goal.invariant-loop-task
invariant-loop-task l = l.place + sum (take l.task l.counts) ≡ l.fn.choice.number % l.steps
