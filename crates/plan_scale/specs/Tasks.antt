-- How many tasks a scale asks for, counted operator by operator.
use Rattle.std.specs.Prelude.{ℕ, ◌+◌, ◌^◌, ◌<◌, ◌≤◌, ◌==◌, Bool, false, ◌&&◌, List, [], ◌∷◌, sum, length, Option, Some, None, if◌then◌else◌}
use Rattle.std.specs.List.{All}
use Rattle.std.specs.Option.{option_map_or}
use Rattle.key_groups.specs.declared.limits.TheConstants.{MOST_SUBTASKS}
use Rattle.layout_rules.specs.declared.stage.FilterScale.{FilterScale}
use Rattle.layout_rules.specs.ScaleData.{ScaleData}

-- the parallelism of a plan's only source, to which a filter may be chained
abbrev pub only_parallelism : List ℕ → Option ℕ
only_parallelism [] = None
only_parallelism (n ∷ []) = Some n
only_parallelism (n ∷ m ∷ ns) = None

-- whether a filter is chained to the operator before it, which has this parallelism if one may be chained to it
abbrev pub chains_to : Option ℕ → FilterScale → Bool
chains_to before f = f.chain && option_map_or (λ n. n == f.parallelism) before false

-- the tasks of the stages that filters open
abbrev pub filter_tasks : Option ℕ → List FilterScale → ℕ
filter_tasks before [] = 0
filter_tasks before (f ∷ fs) = (if chains_to before f then 0 else f.parallelism) + filter_tasks (Some f.parallelism) fs

-- with the window's tasks and the sink's one
abbrev pub task_count : ScaleData → ℕ
task_count c = sum c.sources + filter_tasks (only_parallelism c.sources) c.filters + c.window + 1

-- the count has 32 bits
pub record IsSmall (c : ScaleData) : Type 0 where
  pub sources : sum c.sources < 2 ^ 16
  pub filters_few : length c.filters < 2 ^ 16
  pub filters : All (λ f. f.parallelism ≤ MOST_SUBTASKS) c.filters
  pub window : c.window ≤ MOST_SUBTASKS
