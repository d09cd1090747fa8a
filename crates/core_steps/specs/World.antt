-- A world: all tasks of a leg and the rings between them. Its type says that it is the end of a consistent history.
use Rattle.std.specs.Prelude.{◌≡◌, ℕ, suc, ◌<◌, ◌≤◌, List, ◌++◌, map, reverse, length, slice_index, slice_index_or, Bool, true, false}
use Rattle.plan_model.specs.PlanData.{PlanData, IsPlan}
use Rattle.stream_model.specs.InputData.{InputData, IsInput, BelongsTo}
use Rattle.stream_model.specs.Watermarks.{IsOrderly}
use Rattle.dataflow_model.specs.declared.message.Message.{Message}
use Rattle.dataflow_model.specs.Role.{is_source}
use Rattle.dataflow_model.specs.AbstractTask.{AbstractTask}
use Rattle.dataflow_model.specs.AbstractLayout.{IsLayout}
use Rattle.dataflow_model.specs.State.{Windows, State}
use Rattle.dataflow_model.specs.Start.{IsLegStart}
use Rattle.dataflow_laws.specs.World as flow
use Rattle.dataflow_laws.specs.World.{with_task, with_ring, Reached}
use Rattle.dataflow_laws.specs.Admission.{IsAdmittedInput}
use Rattle.layout_rules.specs.Stages.{task_count, outputs_of}
use Rattle.plan_compiler.specs.LayoutData.{IsLayoutOf}
use Rattle.legs.specs.Stops.{until_in}
use Rattle.redistribute.specs.StartData.{offsets_of}
use Rattle.redistribute.specs.Begins.{IsStartIn}
use Rattle.redistribute.specs.Stopping.{CanGo, CanSaveAt}
use Rattle.task_steps.specs.TaskData.{TaskData, Stands}
use Rattle.task_steps.specs.Reading.{HasPartitions, ReadsFrom}
use Rattle.core_steps.specs.Given.{GivenData, given_data, layout_in, start_in}
use Rattle.core_steps.specs.Rings.{RingsData, queue_at}
use Rattle.core_steps.specs.declared.world.World.TheInside.{Inside}

-- what it was made of, its tasks and rings, and whether a step found no memory
pub record WorldData : Type 0 where
  pub given : GivenData
  pub tasks : List TaskData
  pub rings : RingsData
  pub has_failed : Bool

abbrev pub world_view : Inside → WorldData
world_view w = record { given = given_data w.given (until_in w.leg.until); tasks = w.tasks.items; rings = w.rings; has_failed = w.has_failed }

-- the states of tasks, and what the rings hold, the newest message first
abbrev pub state_at : GivenData → List TaskData → ℕ → State
state_at g tasks t = slice_index_or (map (λ d. d.state) tasks) t (start_in g t)

abbrev pub held : RingsData → ℕ → ℕ → List Message
held r s t = reverse (queue_at r s t).messages

-- the world in the abstract
abbrev pub world_in : WorldData → flow.World
world_in w = record { tasks = state_at w.given w.tasks; rings = held w.rings }

-- a plan and an input that were read, of which the layout and the start are, and the leg can go as far as it is to and
-- take its savepoints on the way
pub record IsGiven (g : GivenData) : Type 0 where
  pub plan : IsPlan g.plan
  pub input : IsInput g.input
  pub orderly : IsOrderly g.input.time g.input.sources
  pub belongs : BelongsTo g.plan g.input
  pub laid_out : IsLayoutOf g.plan g.layout
  pub starts : IsStartIn g.plan g.input g.start
  pub stops : CanGo g.input.sources (offsets_of g.start) g.until
  pub saves : CanSaveAt g.input.sources (offsets_of g.start) g.saves g.until

-- the layout is one, its tasks begin one leg in opening states, and they admit the input
pub record IsSound (g : GivenData) : Type 0 where
  pub given : IsGiven g
  pub layout : IsLayout (layout_in g)
  pub count : task_count g.layout.stages ≡ suc (layout_in g).sink
  pub start : IsLegStart g.plan (layout_in g) (start_in g)
  pub input : IsAdmittedInput g.plan (layout_in g)
  pub capacity : 0 < g.layout.capacity

-- task d stands for task k of the layout, over the plan and the input
pub record IsPlaced (p : PlanData) (input : InputData) (k : AbstractTask) (d : TaskData) : Type 0 where
  pub stands : Stands p k d
  pub reads : is_source d.setup.role ≡ true → ReadsFrom k d.setup input
  pub has : is_source d.setup.role ≡ true → HasPartitions d.setup input
  pub columns : input.columns ≡ d.setup.columns
  pub time : input.time ≡ d.setup.time

-- each task stands for the layout's and has failed only if the world has, and each ring has room for what it may hold
pub record IsBuilt (w : WorldData) : Type 0 where
  pub count : length w.tasks ≡ task_count w.given.layout.stages
  pub placed : (t : ℕ) (d : TaskData) → t < task_count w.given.layout.stages → IsPlaced w.given.plan w.given.input ((layout_in w.given).task t) (slice_index_or w.tasks t d)
  pub going : w.has_failed ≡ false → (t : ℕ) (d : TaskData) → t < task_count w.given.layout.stages → (slice_index_or w.tasks t d).has_failed ≡ false
  pub rings : w.rings.tasks ≡ task_count w.given.layout.stages
  pub room : (s j : ℕ) → s < task_count w.given.layout.stages → j < length (outputs_of w.given.layout.stages s) → w.given.layout.capacity ≤ (queue_at w.rings s (slice_index (outputs_of w.given.layout.stages s) j)).room

-- a world that has failed is the world v in the abstract, but for the windows of one task that is not over, and for at
-- most the oldest message of one ring to it
pub record IsLeft (v : flow.World) (w : WorldData) : Type 0 where
  pub task : ℕ
  pub there : task < length w.tasks
  pub going : (v.tasks task).over ≡ false
  pub windows : Windows
  pub tasks : (t : ℕ) → state_at w.given w.tasks t ≡ with_task task (record (v.tasks task) { windows = windows }) v.tasks t
  pub sender : ℕ
  pub lost : List Message
  pub few : length lost ≤ 1
  pub rings : (s t : ℕ) → v.rings s t ≡ with_ring sender task (held w.rings sender task ++ lost) (held w.rings) s t

-- moves lead to the world from its opening states, or to the world that it was before it failed
abbrev pub IsEnd : Bool → WorldData → Type 0
IsEnd false w = Reached w.given.plan (layout_in w.given) w.given.layout.capacity (start_in w.given) (world_in w)
IsEnd true w = (v : flow.World) × Reached w.given.plan (layout_in w.given) w.given.layout.capacity (start_in w.given) v × IsLeft v w

pub record IsWorld (w : WorldData) : Type 0 where
  pub sound : IsSound w.given
  pub built : IsBuilt w
  pub reached : IsEnd w.has_failed w
