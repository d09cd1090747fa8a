-- The part of a start that each task of a layout begins with.
use Rattle.std.specs.Prelude.{◌≡◌, ℕ, ◌≤◌, nat_le, Bool, ◌&&◌, false, List, [], length, map, slice_index_or, if◌then◌else◌}
use Rattle.std.specs.FinMap.{from_entries}
use Rattle.std.specs.List.{All, flat_map}
use Rattle.plain_data.specs.Times.{lowest}
use Rattle.plan_model.specs.declared.limits.TheConstants.{MOST_RECORDS}
use Rattle.plan_model.specs.PlanData.{PlanData}
use Rattle.plan_model.specs.Rows.{is_due}
use Rattle.dataflow_model.specs.declared.role.Role.{Role}
use Rattle.dataflow_model.specs.declared.role.Role.TheVariants as role
use Rattle.dataflow_model.specs.State.{Windows}
use Rattle.layout_rules.specs.declared.stage.Stage.{Stage}
use Rattle.layout_rules.specs.Layouts.{partition_counts}
use Rattle.key_groups.specs.declared.ranges.GroupRange.{GroupRange}
use Rattle.layout_rules.specs.Stages.{source_of, task_stage, task_role, partitions_of, groups_of}
use Rattle.aggregates.specs.declared.kind.Kind.{Kind}
use Rattle.savepoint_codec.specs.declared.savepoint.SavedPartition.{SavedPartition}
use Rattle.savepoint_codec.specs.declared.savepoint.SavedGroup.{SavedGroup}
use Rattle.window_state.specs.declared.parts.Part.{Part}
use Rattle.window_state.specs.Parts.{entries_of, IsPartOf}
use Rattle.packed_parts.specs.Packing.{part_of}
use Rattle.redistribute.specs.declared.task_start.PartitionStart.{PartitionStart}
use Rattle.redistribute.specs.declared.task_start.TaskStart.{TaskStart}
use Rattle.redistribute.specs.declared.task_start.TaskStart.TheVariants.{Source, Chain, Window, Sink}
use Rattle.redistribute.specs.StartData.{StartData}

-- a partition that a start lacks: at its first entry
abbrev pub at_first : SavedPartition
at_first = record { offset = 0; watermark = lowest }

-- how far a start has partition q of source x
abbrev pub saved_at : StartData → ℕ → ℕ → SavedPartition
saved_at s x q = slice_index_or (slice_index_or s.sources x []) q at_first

-- where a task begins to read partition q of source x
abbrev pub partition_start : StartData → ℕ → ℕ → PartitionStart
partition_start s x q = record { partition = q; offset = (saved_at s x q).offset; watermark = (saved_at s x q).watermark }

-- what a task of a role begins with that has these partitions: of a source them, of any other nothing
abbrev pub start_of_role : Role → List PartitionStart → TaskStart
start_of_role role.Source starts = Source starts
start_of_role role.Chain starts = Chain
start_of_role role.Window starts = Window []
start_of_role role.Sink starts = Sink

-- what task t begins with, where the sources have so many partitions and nothing stands in the windows: a source's task
-- has those of its source that it reads
abbrev pub task_start : List ℕ → StartData → List Stage → ℕ → TaskStart
task_start counts s stages t = start_of_role (task_role stages t) (map (partition_start s (source_of (task_stage stages t).operators)) (partitions_of counts stages t))

-- the partitions that a task begins to read
abbrev pub partitions_in : TaskStart → List PartitionStart
partitions_in (Source starts) = starts
partitions_in Chain = []
partitions_in (Window parts) = []
partitions_in Sink = []

-- the key group is one of the range
abbrev pub is_group_of : GroupRange → ℕ → Bool
is_group_of range group = nat_le range.first group && nat_le group range.last

-- what stands in the windows of the key groups of a range
abbrev pub parts_in_group : List Kind → GroupRange → SavedGroup → List Part
parts_in_group kinds range g = if is_group_of range g.group then map (part_of kinds) g.entries.entries else []

abbrev pub parts_within : GroupRange → StartData → List Part
parts_within range s = flat_map (parts_in_group s.kinds range) s.groups

-- what a task begins with that has these windows: any but the window's has none
abbrev pub with_windows : List Part → TaskStart → TaskStart
with_windows parts (Source starts) = Source starts
with_windows parts Chain = Chain
with_windows parts (Window none) = Window parts
with_windows parts Sink = Sink

-- what task t begins with, among so many key groups: a window's task has what stands in the windows of its key groups
abbrev pub whole_task_start : ℕ → List ℕ → StartData → List Stage → ℕ → TaskStart
whole_task_start max counts s stages t = with_windows (parts_within (groups_of max stages t) s) (task_start counts s stages t)

-- all that stands in the windows of a start
abbrev pub parts_of : StartData → List Part
parts_of s = flat_map (λ g. map (part_of s.kinds) g.entries.entries) s.groups

abbrev pub windows_of : StartData → Windows
windows_of s = from_entries (entries_of (parts_of s))

-- a part of a window state that a task of the plan's window may begin with: no window is due by the least watermark,
-- and there is room for the records of a leg
pub record IsOpenPart (p : PlanData) (x : Part) : Type 0 where
  pub part : IsPartOf p.window x
  pub early : is_due p.window lowest x.pane.start ≡ false
  pub count : x.acc.total.count ≤ MOST_RECORDS

-- a part that task t may have, where the sources have so many partitions: of a source all the partitions that it reads,
-- of any other no partition, and in windows what may stand there
pub record IsPartFor (p : PlanData) (stages : List Stage) (t : ℕ) (part : TaskStart) : Type 0 where
  pub starts : List PartitionStart
  pub parts : List Part
  pub is : part ≡ with_windows parts (start_of_role (task_role stages t) starts)
  pub each : length starts ≡ length (partitions_of (partition_counts p) stages t)
  pub sound : All (IsOpenPart p) parts
