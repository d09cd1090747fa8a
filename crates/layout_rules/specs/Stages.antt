-- A layout's tasks, rings and partitions, all computed from its list of stages.
use Rattle.std.specs.Prelude.{ℕ, suc, ◌-◌, ◌%◌, List, [], ◌∷◌, Bool, true, false, ◌&&◌, ◌==◌, nat_lt, if◌then◌else◌, Option, Some, None, length, map, slice_index, slice_index_or, max}
use Rattle.dataflow_model.specs.declared.role.Role.{Role}
use Rattle.dataflow_model.specs.declared.role.Role.TheVariants.{Source, Chain, Window, Sink}
use Rattle.dataflow_model.specs.Role.{is_source, is_window}
use Rattle.key_groups.specs.declared.ranges.GroupRange.{GroupRange}
use Rattle.key_groups.specs.Ranges.{group_range}
use Rattle.layout_rules.specs.declared.stage.Operator.{Operator}
use Rattle.layout_rules.specs.declared.stage.Operator.TheVariants as operator
use Rattle.layout_rules.specs.declared.stage.Edge.{Edge}
use Rattle.layout_rules.specs.declared.stage.Edge.TheVariants.{Forward, ByGroup, Rebalance}
use Rattle.layout_rules.specs.declared.stage.Stage.{Stage}
use Rattle.layout_rules.specs.declared.stage.TaskPlace.{TaskPlace}
use Rattle.layout_rules.specs.Below.{sum_below, row_of, filter_below}

abbrev pub stage_from : ℕ → List Operator → Option Edge → Stage
stage_from parallelism operators edge = record { parallelism = parallelism; operators = operators; edge = edge }

abbrev pub stage_at : List Stage → ℕ → Stage
stage_at stages a = slice_index_or stages a (stage_from 0 [] None)

abbrev pub parallelism_at : List Stage → ℕ → ℕ
parallelism_at stages a = (stage_at stages a).parallelism

-- a stage does what its first operator says
abbrev pub role_of : List Operator → Role
role_of [] = Chain
role_of (operator.Source x ∷ os) = Source
role_of (operator.Filter f ∷ os) = Chain
role_of (operator.Window ∷ os) = Window
role_of (operator.Sink ∷ os) = Sink

abbrev pub source_of : List Operator → ℕ
source_of [] = 0
source_of (operator.Source x ∷ os) = x
source_of (operator.Filter f ∷ os) = 0
source_of (operator.Window ∷ os) = 0
source_of (operator.Sink ∷ os) = 0

-- the stages that sources open stand first
abbrev pub leading_sources : List (List Operator) → ℕ
leading_sources [] = 0
leading_sources (os ∷ oss) = if is_source (role_of os) then suc (leading_sources oss) else 0

abbrev pub source_stages : List Stage → ℕ
source_stages stages = leading_sources (map (λ s. s.operators) stages)

-- a source's stage leads to the first one after those of the sources, any other to the one after it
abbrev pub next_stage : List Stage → ℕ → ℕ
next_stage stages a = max (source_stages stages) (suc a)

-- the edge from a stage into another: by group into the window, else forward between equal parallelisms
abbrev pub edge_into : Stage → Stage → Edge
edge_into s s' = if is_window (role_of s'.operators) then ByGroup else (if s.parallelism == s'.parallelism then Forward else Rebalance)

-- tasks are numbered through the stages, then by subtask
abbrev pub task_count : List Stage → ℕ
task_count stages = sum_below (parallelism_at stages) (length stages)

abbrev pub stage_of : List Stage → ℕ → ℕ
stage_of stages t = row_of (parallelism_at stages) (length stages) t

abbrev pub subtask_of : List Stage → ℕ → ℕ
subtask_of stages t = t - sum_below (parallelism_at stages) (stage_of stages t)

abbrev pub place_of : List Stage → ℕ → TaskPlace
place_of stages t = record { stage = stage_of stages t; subtask = subtask_of stages t }

-- the stage that a task stands in, and what it does there
abbrev pub task_stage : List Stage → ℕ → Stage
task_stage stages t = stage_at stages (stage_of stages t)

abbrev pub task_role : List Stage → ℕ → Role
task_role stages t = role_of (task_stage stages t).operators

-- which subtasks an edge joins
abbrev pub connects : Option Edge → ℕ → ℕ → Bool
connects None i j = false
connects (Some Forward) i j = i == j
connects (Some ByGroup) i j = true
connects (Some Rebalance) i j = true

-- whether a ring leads from task s to task t
abbrev pub is_ring : List Stage → ℕ → ℕ → Bool
is_ring stages s t = nat_lt t (task_count stages) && ((stage_of stages t == next_stage stages (stage_of stages s)) && connects (task_stage stages s).edge (subtask_of stages s) (subtask_of stages t))

-- a task's inputs and outputs, by ascending task at the other end
abbrev pub inputs_of : List Stage → ℕ → List ℕ
inputs_of stages t = filter_below (λ s. is_ring stages s t) (task_count stages)

abbrev pub outputs_of : List Stage → ℕ → List ℕ
outputs_of stages s = filter_below (is_ring stages s) (task_count stages)

-- partition p belongs to subtask p mod parallelism
abbrev pub belongs : List Stage → ℕ → ℕ → Bool
belongs stages t p = (p % (task_stage stages t).parallelism) == subtask_of stages t

-- how many partitions a task's source has, where the sources have so many
abbrev pub partitions_at : List ℕ → List Stage → ℕ → ℕ
partitions_at counts stages t = slice_index counts (source_of (task_stage stages t).operators)

-- the partitions of a source's task, ascending; any other task has none
abbrev pub partitions_of : List ℕ → List Stage → ℕ → List ℕ
partitions_of counts stages t = if is_source (task_role stages t) then filter_below (belongs stages t) (partitions_at counts stages t) else []

-- the groups of a task of the window, among so many
abbrev pub groups_of : ℕ → List Stage → ℕ → GroupRange
groups_of max stages t = group_range max (task_stage stages t).parallelism (subtask_of stages t)
