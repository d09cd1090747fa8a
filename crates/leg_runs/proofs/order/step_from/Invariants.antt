use Rattle.std.proofs.Common.{ℕ, ◌<◌, ◌≤◌}
use Rattle.leg_runs.specs.Order.{CanNothing}
use Rattle.leg_runs.proofs.order.step_from.Given as goal

abbrev pub invariant-loop-task : goal.invariant-loop-task
invariant-loop-task l = (t : ℕ) → l.first ≤ t → t < l.task → CanNothing l.world t
