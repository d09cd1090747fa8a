use Rattle.std.proofs.Common.{◌≡◌, ℕ, ◌+◌, take}
use Rattle.core_steps.specs.Answers.{CanMake}
use Rattle.leg_runs.specs.Choosing.{HasCount, steps_of}
use Rattle.leg_runs.proofs.schedule.step_at.Given as goal

abbrev pub invariant-loop-number : goal.invariant-loop-number
invariant-loop-number l = (seen : ℕ) × HasCount (CanMake l.world) (take l.number (steps_of l.layout l.task)) seen × (seen + l.left ≡ l.place)
