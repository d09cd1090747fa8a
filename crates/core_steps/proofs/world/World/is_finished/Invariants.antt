use Rattle.std.proofs.Common.{ℕ, ◌<◌, get_or}
use Rattle.dataflow_model.specs.Steps.{IsDone}
use Rattle.task_steps.specs.TaskData.{TaskData}
use Rattle.core_steps.proofs.world.World.is_finished.Given as goal

abbrev pub invariant-loop-task : goal.invariant-loop-task
invariant-loop-task l = (t : ℕ) (d : TaskData) → t < l.task-index → IsDone (get_or l.task-items t d).state
