-- What a scale must meet.
use Rattle.std.specs.Prelude.{◌≡◌, ℕ, ◌<◌, ◌≤◌, List, length}
use Rattle.std.specs.List.{All}
use Rattle.key_groups.specs.declared.limits.TheConstants.{MOST_SUBTASKS}
use Rattle.plan_model.specs.PlanData.{PlanData}
use Rattle.layout_rules.specs.declared.limits.TheConstants.{MOST_TASKS}
pub use Rattle.layout_rules.specs.ScaleData.{FilterScale, ScaleData, IsCapacity, scale_data_of}
use Rattle.layout_rules.specs.declared.stage.Stage.{Stage}
use Rattle.layout_rules.specs.Stages.{parallelism_at, source_stages, task_count}
use Rattle.layout_rules.specs.Rules.{stages_of}

-- 1 to the lesser of 64 and the number of key groups
pub record IsParallelism (max n : ℕ) : Type 0 where
  pub some : 1 ≤ n
  pub few : n ≤ MOST_SUBTASKS
  pub grouped : n ≤ max

-- what every scale that is read by a plan meets: the layout has at most 256 tasks, with the sink's
pub record IsScale (p : PlanData) (c : ScaleData) : Type 0 where
  pub capacity : IsCapacity c.capacity
  pub sources : length c.sources ≡ length p.sources
  pub filters : length c.filters ≡ length p.filters
  pub source_parallelisms : All (IsParallelism p.max) c.sources
  pub filter_parallelisms : All (λ f. IsParallelism p.max f.parallelism) c.filters
  pub window_parallelism : IsParallelism p.max c.window
  pub tasks_few : task_count (stages_of p c) ≤ MOST_TASKS

-- what the stages of every plan with so many key groups and sources meet: those of the sources stand first, before
-- others
pub record AreStages (max sources : ℕ) (stages : List Stage) : Type 0 where
  pub leading : source_stages stages ≡ sources
  pub more : sources < length stages
  pub few : length stages ≤ MOST_TASKS
  pub tasks_few : task_count stages ≤ MOST_TASKS
  pub parallelism : (a : ℕ) → a < length stages → IsParallelism max (parallelism_at stages a)
