-- How a world begins.
use Rattle.std.specs.Prelude.{◌≡◌, ℕ, ◌<◌, List, [], length, slice_index_or, false}
use Rattle.layout_rules.specs.Stages.{task_count}
use Rattle.task_steps.specs.TaskData.{TaskData}
use Rattle.core_steps.specs.Given.{GivenData, layout_in, start_in}
use Rattle.core_steps.specs.World.{WorldData, world_in, IsPlaced}

-- the tasks stand for those of the layout, and have done nothing
pub record AreNewTasks (g : GivenData) (tasks : List TaskData) : Type 0 where
  pub count : length tasks ≡ task_count g.layout.stages
  pub placed : (t : ℕ) (d : TaskData) → t < task_count g.layout.stages → IsPlaced g.plan g.input ((layout_in g).task t) (slice_index_or tasks t d)
  pub going : (t : ℕ) (d : TaskData) → t < task_count g.layout.stages → (slice_index_or tasks t d).has_failed ≡ false
  pub opening : (t : ℕ) (d : TaskData) → t < task_count g.layout.stages → (slice_index_or tasks t d).state ≡ start_in g t

-- a world of tasks in their opening states, with empty rings
pub record IsNewWorld (g : GivenData) (w : WorldData) : Type 0 where
  pub given : w.given ≡ g
  pub going : w.has_failed ≡ false
  pub opening : world_in w ≡ record { tasks = start_in g; rings = λ s t. [] }
