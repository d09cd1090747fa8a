use Rattle.std.proofs.Common.{◌≤◌, take}
use Rattle.core_steps.specs.Answers.{CanMake}
use Rattle.leg_runs.specs.Choosing.{HasCount, steps_of}
use Rattle.leg_runs.proofs.schedule.count.Given as goal

abbrev pub invariant-loop-number : goal.invariant-loop-number
invariant-loop-number l = HasCount (CanMake l.world) (take l.number (steps_of l.layout l.task)) l.count × (l.count ≤ l.number)
