-- The parts that the tasks of a layout leave, and what they say together.
use Rattle.std.specs.Prelude.{◌≡◌, ℕ, ◌==◌, ◌<◌, ◌≤◌, Bool, ◌&&◌, List, [], length, map, slice_index, slice_index_or, if◌then◌else◌}
use Rattle.std.specs.FinMap.{FinMap, from_entries}
use Rattle.std.specs.List.{All, filter, find, flat_map, range_with_len}
use Rattle.std.specs.List.Sorted.{IsStrictlySortedBy}
use Rattle.std.specs.Option.{option_map_or}
use Rattle.key_groups.specs.Groups.{key_group}
use Rattle.key_groups.specs.Laws.{Has}
use Rattle.key_groups.specs.declared.ranges.GroupRange.{GroupRange}
use Rattle.plan_model.specs.declared.spec.Pane.{Pane}
use Rattle.plan_model.specs.Aggregates.{Aggregated}
use Rattle.plan_model.specs.PlanData.{PlanData}
use Rattle.plan_model.specs.Rows.{pane_cmp}
use Rattle.plan_model.specs.declared.limits.TheConstants.{MOST_RECORDS}
use Rattle.dataflow_model.specs.Role.{is_source}
use Rattle.dataflow_model.specs.declared.role.Role.TheVariants as role
use Rattle.layout_rules.specs.Layouts.{partition_counts}
use Rattle.layout_rules.specs.Stages.{source_of, task_stage, task_role, task_count, partitions_of, groups_of}
use Rattle.layout_rules.specs.declared.stage.Stage.{Stage}
use Rattle.aggregates.specs.Kinds.{kind_of}
use Rattle.window_state.specs.Parts.{entries_of}
use Rattle.window_state.specs.declared.parts.Part.{Part}
use Rattle.savepoint_codec.specs.declared.savepoint.SavedPartition.{SavedPartition}
use Rattle.gather.specs.Saved.{is_in_group}
use Rattle.redistribute.specs.Parts.{at_first, partitions_in}
use Rattle.redistribute.specs.declared.task_start.PartitionStart.{PartitionStart}
use Rattle.redistribute.specs.declared.task_start.TaskStart.{TaskStart}
use Rattle.redistribute.specs.declared.task_start.TaskStart.TheVariants.{Source, Chain, Window, Sink}

-- what stands in the panes of a task
abbrev pub panes_in : TaskStart → List Part
panes_in (Source starts) = []
panes_in Chain = []
panes_in (Window parts) = parts
panes_in Sink = []

-- what stands in the windows of all tasks
abbrev pub windows_in : List TaskStart → FinMap pane_cmp Aggregated
windows_in parts = from_entries (entries_of (flat_map panes_in parts))

-- the part of task t
abbrev pub part_at : List TaskStart → ℕ → TaskStart
part_at parts t = slice_index_or parts t Chain

-- task t reads source x
abbrev pub is_reader : List Stage → ℕ → ℕ → Bool
is_reader stages x t = is_source (task_role stages t) && source_of (task_stage stages t).operators == x

-- the partitions that task t reads of source x
abbrev pub starts_at : List Stage → List TaskStart → ℕ → ℕ → List PartitionStart
starts_at stages parts x t = if is_reader stages x t then partitions_in (part_at parts t) else []

-- the partitions of source x, at whichever task
abbrev pub starts_of : List Stage → List TaskStart → ℕ → List PartitionStart
starts_of stages parts x = flat_map (starts_at stages parts x) (range_with_len 0 (task_count stages))

abbrev pub saved_start : PartitionStart → SavedPartition
saved_start b = record { offset = b.offset; watermark = b.watermark }

-- how far partition q was read, among these
abbrev pub partition_in : List PartitionStart → ℕ → SavedPartition
partition_in starts q = option_map_or saved_start (find (λ b. b.partition == q) starts) at_first

-- how far each partition of source x was read
abbrev pub source_in : PlanData → List Stage → List TaskStart → ℕ → List SavedPartition
source_in p stages parts x = map (partition_in (starts_of stages parts x)) (range_with_len 0 (slice_index (partition_counts p) x))

-- how far the partitions of each of the plan's sources were read, in plan order
abbrev pub sources_in : PlanData → List Stage → List TaskStart → List (List SavedPartition)
sources_in p stages parts = map (source_in p stages parts) (range_with_len 0 (length p.sources))

-- the panes of a key group, among so many
abbrev pub panes_in_group : ℕ → ℕ → List Part → List Pane
panes_in_group max group parts = filter (is_in_group max group) (map (λ part. part.pane) parts)

-- what stands in the panes of a window's task: the panes of each key group ascend, and each has the plan's kinds of
-- aggregates, at most 2^40 records, and a key of the task's key groups
pub record ArePanes (p : PlanData) (range : GroupRange) (parts : List Part) : Type 0 where
  pub ordered : (group : ℕ) → IsStrictlySortedBy pane_cmp (panes_in_group p.max group parts)
  pub kinds : All (λ part. part.acc.kinds ≡ map kind_of p.window.aggregates) parts
  pub counted : All (λ part. part.acc.total.count ≤ MOST_RECORDS) parts
  pub owned : All (λ part. Has range (key_group p.max part.pane.key)) parts

-- what task t leaves: a source's task just the partitions that it reads, a window's task its panes, any other nothing
abbrev pub IsPartOf : PlanData → List Stage → ℕ → TaskStart → Type 0
IsPartOf p stages t (Source starts) = (task_role stages t ≡ role.Source) × (map (λ b. b.partition) starts ≡ partitions_of (partition_counts p) stages t)
IsPartOf p stages t Chain = task_role stages t ≡ role.Chain
IsPartOf p stages t (Window parts) = (task_role stages t ≡ role.Window) × ArePanes p (groups_of p.max stages t) parts
IsPartOf p stages t Sink = task_role stages t ≡ role.Sink

-- one part for each task, in task order
pub record AreParts (p : PlanData) (stages : List Stage) (parts : List TaskStart) : Type 0 where
  pub counted : length parts ≡ task_count stages
  pub each : (t : ℕ) → t < task_count stages → IsPartOf p stages t (part_at parts t)
