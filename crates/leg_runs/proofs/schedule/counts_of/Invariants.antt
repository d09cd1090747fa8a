use Rattle.std.proofs.Common.{◌≡◌, ℕ, ◌<◌, length}
use Rattle.std.specs.Prelude.{slice_index}
use Rattle.core_steps.specs.Answers.{CanMake}
use Rattle.leg_runs.specs.Choosing.{HasCount, steps_of}
use Rattle.leg_runs.proofs.schedule.counts_of.Given as goal

abbrev pub invariant-loop-task : goal.invariant-loop-task
invariant-loop-task l = (length l.counts.items ≡ l.task) × ((t : ℕ) → t < l.task → HasCount (CanMake l.world) (steps_of l.layout t) (slice_index l.counts.items t))
