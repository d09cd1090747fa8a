-- A task as contracts see it.
use Rattle.std.specs.Prelude.{◌≡◌, ◌==◌, ◌&&◌, ℕ, ◌+◌, ◌*◌, ◌^◌, ◌≤◌, ◌<◌, ℤ, length, map, Option, Some, None, option_map, slice_index, Bool, true, false}
use Rattle.std.specs.List.{All}
use Rattle.std.specs.FinMap.{get, empty}
use Rattle.std.specs.VecDeque.{deque_capacity}
use Rattle.plain_data.specs.Record.{Record}
use Rattle.plan_model.specs.declared.spec.WindowSpec.{WindowSpec}
use Rattle.plan_model.specs.declared.spec.Pane.{Pane}
use Rattle.plan_model.specs.PlanData.{PlanData}
use Rattle.plan_model.specs.Windows.{passes}
use Rattle.plan_model.specs.Aggregates.{Aggregated}
use Rattle.plan_model.specs.declared.limits.TheConstants.{MOST_RECORDS}
use Rattle.window_state.specs.State.{StateData}
use Rattle.window_state.specs.Windows.{CanAggregate}
use Rattle.input_state.specs.Inputs.{all_shut, any_held}
use Rattle.dataflow_model.specs.declared.role.Role.{Role}
use Rattle.dataflow_model.specs.declared.role.Role.TheVariants as role
use Rattle.dataflow_model.specs.Role.{is_source}
use Rattle.dataflow_model.specs.Ending.{may_stop}
use Rattle.dataflow_model.specs.AbstractTask.{AbstractTask, Routing, Whole, Split as Splits}
use Rattle.dataflow_model.specs.State.{Windows, State}
use Rattle.task_steps.specs.declared.setup.Setup.{Setup}
use Rattle.task_steps.specs.declared.setup.Split.{Split}
use Rattle.task_steps.specs.declared.task.Task.TheInside.{Inside}
use Rattle.task_steps.specs.Limits.{barriers_in, limit_in}
use Rattle.key_dealing.specs.Dealing.{owner}
use Rattle.task_steps.specs.Sending.{IsSplit}
use Rattle.task_steps.specs.Keeping.{kept_value, IsKept}

-- what it was told when it was made, its window operator if it has one, its state, and whether a step found no memory
pub record TaskData : Type 0 where
  pub setup : Setup
  pub window : Option WindowSpec
  pub state : State
  pub has_failed : Bool

abbrev pub windows_in : Option StateData → Windows
windows_in None = empty
windows_in (Some w) = w.windows

abbrev pub task_view : Inside → TaskData
task_view t = record {
  setup = t.setup;
  window = option_map (λ w. w.window) t.window;
  state = record {
    pending = t.pending.items;
    opened = t.opened;
    over = t.over;
    offsets = t.offsets.items;
    inputs = t.inputs;
    cursor = t.cursor;
    taken = t.taken;
    windows = windows_in t.window;
    rows = t.rows.items;
    next = t.next;
    kept = map kept_value t.kept.items;
  };
  has_failed = t.has_failed;
}

-- no window has more than n records
abbrev pub HasCounts : ℕ → Windows → Type 0
HasCounts n windows = (q : Pane) (a : Aggregated) → get windows q ≡ Some a → a.count ≤ n

-- whether the next batch has an output to go to
abbrev pub IsTurn : Role → ℕ → ℕ → Type 0
IsTurn role.Source cursor outputs = cursor < outputs
IsTurn role.Chain cursor outputs = cursor < outputs
IsTurn role.Window cursor outputs = Unit {0}
IsTurn role.Sink cursor outputs = Unit {0}

-- a window's task has the plan's operator; its counts come from a start's, at most 2^40, and the records taken, unless
-- an `add` found no memory
abbrev pub IsWindowing : Setup → ℕ → Bool → Option StateData → Type 0
IsWindowing s taken has_failed None = s.role ≡ role.Window → ⊥
IsWindowing s taken has_failed (Some w) = CanAggregate s.columns w.window × (w.window.time ≡ s.time) × (s.having ≡ w.window.having) × (has_failed ≡ false → HasCounts (MOST_RECORDS + taken) w.windows)

pub record IsTask (t : Inside) : Type 0 where
  pub room : 2 * t.setup.outputs + 1 ≤ deque_capacity t.pending
  pub time : t.setup.time < t.setup.columns
  pub key : t.setup.key < t.setup.columns
  pub filters : All (λ f. f.column < t.setup.columns) t.setup.filters
  pub split : IsSplit t.setup.split t.setup.outputs
  pub turn : IsTurn t.setup.role t.cursor t.setup.outputs
  pub windowing : IsWindowing t.setup t.taken t.has_failed t.window
  pub marks : length t.inputs.marks ≡ t.setup.inputs
  pub shut : length t.inputs.shut ≡ t.setup.inputs
  pub taken : t.taken ≤ MOST_RECORDS
  -- the leg's barriers have numbers, from 1 on, and the task has come to none that the leg has not
  pub some : 0 < t.setup.first
  pub numbers : t.setup.first + t.setup.saves < 2 ^ 64
  pub next : t.next ≤ barriers_in t.setup
  pub offsets : t.setup.role ≡ role.Source → length t.offsets.items ≡ t.setup.inputs
  -- a task that is over takes nothing, and has not failed
  pub ended : t.over ≡ true → is_source t.setup.role ≡ false → all_shut t.inputs.shut ≡ true
  pub failed : t.has_failed ≡ true → t.over ≡ false
  -- where a barrier holds an input of a task that goes on, it is the leg's next
  pub held : t.over ≡ false → is_source t.setup.role ≡ false → any_held t.inputs.shut ≡ true → t.next < barriers_in t.setup
  pub kept : All (IsKept t.setup (option_map (λ w. w.window) t.window)) t.kept.items

-- the edge of a layout's task that a split stands for
abbrev pub IsRouting : Option Split → Routing → Type 0
IsRouting None e = e ≡ Whole
IsRouting (Some s) e = (f : ℤ → ℕ) × (e ≡ Splits f) × ((key : ℤ) → f key ≡ owner s.max s.par key)

abbrev pub IsWindowOf : PlanData → Option WindowSpec → Type 0
IsWindowOf p None = Unit {0}
IsWindowOf p (Some w) = w ≡ p.window

-- where partition q stops until savepoint n is taken
abbrev pub limit_at : Setup → ℕ → ℕ → ℕ
limit_at s n q = limit_in s.limits s.ends n q

-- a task of the code stands for task k of a layout and a leg
pub record Stands (p : PlanData) (k : AbstractTask) (t : TaskData) : Type 0 where
  pub columns : t.setup.columns ≡ p.columns
  pub time : t.setup.time ≡ p.window.time
  pub key : t.setup.key ≡ p.window.key
  pub window : IsWindowOf p t.window
  pub role : t.setup.role ≡ k.role
  pub inputs : t.setup.inputs ≡ k.inputs
  pub outputs : t.setup.outputs ≡ k.outputs
  pub routing : IsRouting t.setup.split k.routing
  pub keeps : (r : Record) → k.keeps r ≡ passes t.setup.filters r
  pub first : t.setup.first ≡ k.first
  pub saves : t.setup.saves ≡ k.saves
  pub ending : t.setup.ending ≡ k.ending
  -- of a source, and for its own partitions
  pub source : is_source t.setup.role ≡ true → t.setup.source ≡ k.source
  pub numbers : (q : ℕ) → is_source t.setup.role ≡ true → q < t.setup.inputs → k.partition q ≡ slice_index t.setup.partitions q
  pub limits : (n q : ℕ) → is_source t.setup.role ≡ true → q < t.setup.inputs → k.limit n q ≡ limit_at t.setup n q

-- the leg's next barrier is that of its stop
abbrev pub is_last_in : TaskData → Bool
is_last_in t = may_stop t.setup.ending && (t.state.next == t.setup.saves)
