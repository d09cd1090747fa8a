-- The tasks of a leg that begins at a start.
use Rattle.std.specs.Prelude.{◌≡◌, ℕ, suc, ◌≤◌, ℤ, List, [], length, map, replicate, slice_index_or, Option, Some, None, false}
use Rattle.std.specs.FinMap.{from_entries}
use Rattle.plain_data.specs.Times.{lowest}
use Rattle.plan_model.specs.PlanData.{PlanData}
use Rattle.window_state.specs.State.{StateData}
use Rattle.window_state.specs.Parts.{entries_of}
use Rattle.window_state.specs.declared.parts.Part.{Part}
use Rattle.stream_model.specs.InputData.{InputData}
use Rattle.dataflow_model.specs.declared.role.Role.TheVariants.{Source}
use Rattle.dataflow_model.specs.Leg as model
use Rattle.dataflow_model.specs.AbstractLayout.{AbstractLayout}
use Rattle.layout_rules.specs.declared.stage.Stage.{Stage}
use Rattle.layout_rules.specs.Stages.{inputs_of}
use Rattle.layout_rules.specs.Layouts.{partition_counts}
use Rattle.plan_compiler.specs.Tables.{each_task}
use Rattle.redistribute.specs.declared.task_start.TaskStart.{TaskStart}
use Rattle.redistribute.specs.declared.task_start.TaskStart.TheVariants as part
use Rattle.redistribute.specs.StartData.{StartData}
use Rattle.redistribute.specs.Parts.{whole_task_start, partitions_in}
use Rattle.redistribute.specs.Laws.{opening_states}
use Rattle.task_steps.specs.Beginning.{begun}
use Rattle.task_steps.specs.Reading.{HasPartitions, ReadsFrom}
use Rattle.task_steps.specs.TaskData.{TaskData, Stands}
use Rattle.task_setups.specs.Setups.{setup_of}

-- how far the partitions were read that a task begins with
abbrev pub offsets_in : TaskStart → List ℕ
offsets_in starts = map (λ b. b.offset) (partitions_in starts)

-- the watermarks that it begins with: of a source those of its partitions, of any other the least for each of n inputs
abbrev pub marks_in : ℕ → TaskStart → List ℤ
marks_in n (part.Source starts) = map (λ b. b.watermark) starts
marks_in n part.Chain = replicate n lowest
marks_in n (part.Window parts) = replicate n lowest
marks_in n part.Sink = replicate n lowest

-- what stands in the windows that it begins with
abbrev pub panes_in : TaskStart → List Part
panes_in (part.Source starts) = []
panes_in part.Chain = []
panes_in (part.Window parts) = parts
panes_in part.Sink = []

-- the plan's window operator, with these parts in its windows
abbrev pub window_with : PlanData → List Part → StateData
window_with p parts = record { window = p.window; windows = from_entries (entries_of parts); has_failed = false }

-- the windows that it begins with: a window's task alone has any
abbrev pub window_in : PlanData → TaskStart → Option StateData
window_in p (part.Source starts) = None
window_in p part.Chain = None
window_in p (part.Window parts) = Some (window_with p parts)
window_in p part.Sink = None

-- task t of a leg, as it begins with a part of a start
abbrev pub begun_with : PlanData → model.Leg → List Stage → ℕ → TaskStart → TaskData
begun_with p leg stages t starts = begun (setup_of p leg stages t) (offsets_in starts) (marks_in (length (inputs_of stages t)) starts) (window_in p starts)

-- task t of a leg from a start
abbrev pub new_task : PlanData → StartData → model.Leg → List Stage → ℕ → TaskData
new_task p s leg stages t = begun_with p leg stages t (whole_task_start p.max (partition_counts p) s stages t)

-- all tasks, in order
abbrev pub new_tasks : PlanData → StartData → model.Leg → List Stage → List TaskData
new_tasks p s leg stages = each_task stages (new_task p s leg stages)

-- tasks begin a leg from a start: each stands for the layout's task of its number, a source finds its partitions in the
-- input and reads there what the layout's task has, none has failed, and each begins with its part of the start
pub record BeginLeg (p : PlanData) (i : InputData) (s : StartData) (stages : List Stage) (l : AbstractLayout) (tasks : List TaskData) : Type 0 where
  pub count : length tasks ≡ suc l.sink
  pub stands : (t : ℕ) (d : TaskData) → t ≤ l.sink → Stands p (l.task t) (slice_index_or tasks t d)
  pub reads : (t : ℕ) (d : TaskData) → t ≤ l.sink → (l.task t).role ≡ Source → HasPartitions (slice_index_or tasks t d).setup i × ReadsFrom (l.task t) (slice_index_or tasks t d).setup i
  pub going : (t : ℕ) (d : TaskData) → t ≤ l.sink → (slice_index_or tasks t d).has_failed ≡ false
  pub opening : (t : ℕ) (d : TaskData) → t ≤ l.sink → (slice_index_or tasks t d).state ≡ opening_states p s l stages t
