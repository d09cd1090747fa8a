-- What the tasks of a leg leave of it.
use Rattle.std.specs.Prelude.{◌≡◌, ℕ, ◌<◌, ◌≤◌, ℤ, pos, List, length, map, slice_index, slice_index_or, Some}
use Rattle.std.specs.FinMap.{entries, get}
use Rattle.std.specs.List.{range_with_len}
use Rattle.plan_model.specs.declared.spec.Pane.{Pane}
use Rattle.plan_model.specs.Aggregates.{Aggregated}
use Rattle.plan_model.specs.PlanData.{PlanData}
use Rattle.plan_model.specs.declared.limits.TheConstants.{MOST_RECORDS}
use Rattle.key_groups.specs.Groups.{key_group}
use Rattle.key_groups.specs.Laws.{Has}
use Rattle.input_state.specs.Inputs.{inputs_from}
use Rattle.dataflow_model.specs.State.{Windows, State}
use Rattle.dataflow_model.specs.declared.role.Role.TheVariants.{Source, Window}
use Rattle.layout_rules.specs.Layouts.{partition_counts}
use Rattle.layout_rules.specs.declared.stage.Stage.{Stage}
use Rattle.layout_rules.specs.Stages.{task_count, task_role, partitions_of, groups_of}
use Rattle.plan_compiler.specs.Tables.{each_task}
use Rattle.aggregates.specs.declared.kind.Kind.{Kind}
use Rattle.aggregates.specs.Kinds.{kind_of}
use Rattle.window_state.specs.declared.parts.Part.{Part}
use Rattle.savepoint_codec.specs.declared.savepoint.Contents.{Contents}
use Rattle.redistribute.specs.declared.task_start.PartitionStart.{PartitionStart}
use Rattle.redistribute.specs.declared.task_start.TaskStart.{TaskStart}
use Rattle.redistribute.specs.Parts.{start_of_role, with_windows}
use Rattle.gather.specs.Saved.{savepoint_of}
use Rattle.gather.specs.Parts.{sources_in, windows_in}
use Rattle.task_steps.specs.TaskData.{TaskData, IsWindowOf}
use Rattle.task_steps.specs.declared.seen.Moment.{Moment}
use Rattle.task_steps.specs.Seen.{seen_at}

-- how far the partition at place k was read, of those with these numbers
abbrev pub start_of : List ℕ → List ℕ → List ℤ → ℕ → PartitionStart
start_of partitions offsets marks k = record { partition = slice_index partitions k; offset = slice_index offsets k; watermark = slice_index_or marks k (pos 0) }

abbrev pub start_left : List ℕ → State → ℕ → PartitionStart
start_left partitions s k = start_of partitions s.offsets s.inputs.marks k

abbrev pub starts_left : List ℕ → State → List PartitionStart
starts_left partitions s = map (start_left partitions s) (range_with_len 0 (length partitions))

-- what stands in a pane, as a part with these kinds of aggregates
abbrev pub part_at : List Kind → Pane × Aggregated → Part
part_at kinds e = record { pane = e.0; acc = record { kinds = kinds; total = e.1 } }

abbrev pub parts_left : List Kind → Windows → List Part
parts_left kinds windows = map (part_at kinds) (entries windows)

-- what task t leaves that is in this state, where the sources have so many partitions: a source's task how far it has
-- read its partitions, the window's task what stands in its windows, any other nothing
abbrev pub part_left : List ℕ → List Kind → List Stage → ℕ → State → TaskStart
part_left counts kinds stages t s = with_windows (parts_left kinds s.windows) (start_of_role (task_role stages t) (starts_left (partitions_of counts stages t) s))

-- what all tasks of a plan's layout leave that are in these states
abbrev pub all_left : PlanData → List Stage → (ℕ → State) → List TaskStart
all_left p stages states = each_task stages (λ t. part_left (partition_counts p) (map kind_of p.window.aggregates) stages t (states t))

-- the savepoint of this number that they make together
abbrev pub savepoint_left : PlanData → List Stage → (ℕ → State) → ℕ → Contents
savepoint_left p stages states number = savepoint_of p (sources_in p stages (all_left p stages states)) (windows_in (all_left p stages states)) number

-- a task in this state as it stands now, or as it stood when it aligned on a barrier, as far as a savepoint has it
abbrev pub state_at : Moment → State → State
state_at at s = record s { offsets = (seen_at at s).offsets; inputs = inputs_from (seen_at at s).marks s.inputs.shut; windows = (seen_at at s).windows }

-- tasks are in these states
abbrev pub HaveStates : List Stage → List TaskData → (ℕ → State) → Type 0
HaveStates stages tasks states = (t : ℕ) (d : TaskData) → t < task_count stages → (slice_index_or tasks t d).state ≡ states t

-- a task with this number in a layout: a source's task has its partitions, and in the windows of a window's task
-- stands, or stood then, what is of its own key groups, in no pane more records than may be saved
pub record CanLeave (p : PlanData) (stages : List Stage) (at : Moment) (t : ℕ) (d : TaskData) : Type 0 where
  pub role : d.setup.role ≡ task_role stages t
  pub inputs : task_role stages t ≡ Source → d.setup.inputs ≡ length (partitions_of (partition_counts p) stages t)
  pub window : IsWindowOf p d.window
  pub panes : (q : Pane) (a : Aggregated) → task_role stages t ≡ Window → get (state_at at d.state).windows q ≡ Some a → Has (groups_of p.max stages t) (key_group p.max q.key) × (a.count ≤ MOST_RECORDS)

-- all tasks of a layout are such
pub record CanSave (p : PlanData) (stages : List Stage) (at : Moment) (tasks : List TaskData) : Type 0 where
  pub count : length tasks ≡ task_count stages
  pub each : (t : ℕ) (d : TaskData) → t < task_count stages → CanLeave p stages at t (slice_index_or tasks t d)
