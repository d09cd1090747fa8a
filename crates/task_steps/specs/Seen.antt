-- What a task has of itself for a savepoint, now or at a barrier.
use Rattle.std.specs.Prelude.{◌≡◌}
use Rattle.dataflow_model.specs.State as model
use Rattle.dataflow_model.specs.State.{State, kept_of, kept_at}
use Rattle.task_steps.specs.declared.kept.Kept.{Kept}
use Rattle.task_steps.specs.declared.seen.Moment.{Moment}
use Rattle.task_steps.specs.declared.seen.Moment.TheVariants.{Now, Barrier}
use Rattle.task_steps.specs.Keeping.{kept_value, IsKept}
use Rattle.task_steps.specs.TaskData.{TaskData}

abbrev pub seen_at : Moment → State → model.Kept
seen_at Now s = kept_of s
seen_at (Barrier m) s = kept_at m s

-- it is what the task kept then
pub record IsSeen (d : TaskData) (at : Moment) (k : Kept) : Type 0 where
  pub is : kept_value k ≡ seen_at at d.state
  pub sound : IsKept d.setup d.window k
