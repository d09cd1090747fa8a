use Rattle.std.proofs.Common.{◌≡◌, map}
use Rattle.std.specs.List.{range_with_len}
use Rattle.task_setups.specs.Legs.{leg_over}
use Rattle.leg_tasks.specs.Beginning.{new_task}
use Rattle.leg_tasks.proofs.beginning.tasks_from.Given as goal

abbrev pub invariant-loop-task : goal.invariant-loop-task
invariant-loop-task l = l.tasks.items ≡ map (new_task l.plan l.start (leg_over l.leg l.input) l.layout.stages) (range_with_len 0 l.task)
