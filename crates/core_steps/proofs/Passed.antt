-- How many barriers all tasks have passed.
use Rattle.std.proofs.Common.{ℕ, suc, ◌<◌, ◌≤◌, List, get_or}
use Rattle.std.specs.List.{All}
use Rattle.task_steps.specs.TaskData.{TaskData}

-- of the first tasks, as many as k says, none has passed fewer barriers than this, and some task has passed no more
pub record IsLeastOf (least k : ℕ) (tasks : List TaskData) : Type 0 where
  pub each : (t : ℕ) (d : TaskData) → t < k → least ≤ (get_or tasks t d).state.next
  pub last : All (λ d. suc least ≤ d.state.next) tasks → ⊥
