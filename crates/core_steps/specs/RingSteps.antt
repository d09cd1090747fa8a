-- What the steps that touch rings need of a world, as the code tests it.
use Rattle.std.specs.Prelude.{◌≡◌, ℕ, ◌<◌, length, slice_index, slice_index_or}
use Rattle.layout_rules.specs.Stages.{inputs_of, outputs_of}
use Rattle.task_steps.specs.TaskData.{TaskData}
use Rattle.task_steps.specs.Puts.{IsFirst}
use Rattle.task_steps.specs.Taking.{IsReady}
use Rattle.core_steps.specs.Rings.{queue_at}
use Rattle.core_steps.specs.World.{WorldData}

-- the first pending message of task t is for task u, and there is room for it on the ring
pub record IsPuttable (w : WorldData) (t u : ℕ) : Type 0 where
  pub task : t < length w.tasks
  pub output : ℕ
  pub first : (d : TaskData) → IsFirst output (slice_index_or w.tasks t d).state.pending
  pub there : output < length (outputs_of w.given.layout.stages t)
  pub is : u ≡ slice_index (outputs_of w.given.layout.stages t) output
  pub room : length (queue_at w.rings t u).messages < w.given.layout.capacity

-- task t can take from its input i, whose ring comes from task s and has a message
pub record IsTakeable (w : WorldData) (t i s : ℕ) : Type 0 where
  pub task : t < length w.tasks
  pub ready : (d : TaskData) → IsReady (slice_index_or w.tasks t d) i
  pub is : s ≡ slice_index (inputs_of w.given.layout.stages t) i
  pub some : 0 < length (queue_at w.rings s t).messages
