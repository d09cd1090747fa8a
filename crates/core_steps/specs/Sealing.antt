-- What a leg has sealed.
use Rattle.std.specs.Prelude.{◌≡◌, ℕ, suc, ◌+◌, ◌<◌, ◌≤◌, List, [], length, slice_index_or, Option, Some, None, true}
use Rattle.std.specs.List.{All}
use Rattle.plan_model.specs.Rows.{AreRowsOf}
use Rattle.stream_model.specs.Watermarks.{IsCut, IsBefore}
use Rattle.dataflow_model.specs.Leg.Until.{ToCut}
use Rattle.dataflow_model.specs.State.{State}
use Rattle.dataflow_model.specs.History.{History}
use Rattle.dataflow_laws.specs.Inputs.{due_between}
use Rattle.dataflow_laws.specs.Kept.{kept_state, rows_kept, HaveAligned, IsCompleteTo}
use Rattle.layout_rules.specs.Stages.{task_count}
use Rattle.redistribute.specs.StartData.{offsets_of}
use Rattle.redistribute.specs.Begins.{HasSnapshot}
use Rattle.task_steps.specs.TaskData.{TaskData}
use Rattle.leg_tasks.specs.Leaving.{savepoint_left}
use Rattle.leg_tasks.specs.Saved.{IsSavedAt}
use Rattle.core_steps.specs.declared.sealing.Sealed.{Sealed}
use Rattle.core_steps.specs.Given.{GivenData, layout_in, start_in}
use Rattle.core_steps.specs.World.{state_at, IsGiven, IsPlaced}

-- all tasks have passed n barriers, and not all have passed one more
pub record HavePassed (n : ℕ) (tasks : List TaskData) : Type 0 where
  pub all : All (λ d. n ≤ d.state.next) tasks
  pub last : All (λ d. suc n ≤ d.state.next) tasks → ⊥

-- barrier m, counted from 0, is the last that every task has passed: x has the rows that the sink had when it passed
-- it, and the savepoint of what tasks kept there, numbered after the start's
pub record IsSealedAt (g : GivenData) (states : ℕ → State) (m : ℕ) (x : Sealed) : Type 0 where
  pub barrier : x.barrier ≡ suc m
  pub aligned : HaveAligned (layout_in g) m states
  pub last : HaveAligned (layout_in g) (suc m) states → ⊥
  pub rows : x.rows ≡ rows_kept m (states (layout_in g).sink)
  pub savepoint : x.savepoint ≡ savepoint_left g.plan g.layout.stages (λ t. kept_state m (states t)) (g.start.number + suc m)

-- what a leg has sealed whose tasks are in these states: nothing just where there is no such barrier
abbrev pub IsSealed : GivenData → (ℕ → State) → Option Sealed → Type 0
IsSealed g states None = HaveAligned (layout_in g) 0 states → ⊥
IsSealed g states (Some x) = (m : ℕ) × IsSealedAt g states m x

-- steps that were accepted led tasks to these states, but for the windows of tasks that are not over
pub record HasCome (g : GivenData) (states : ℕ → State) : Type 0 where
  pub history : History g.plan (layout_in g) (start_in g)
  pub ends : (t : ℕ) → states t ≡ record (history.end t) { windows = (states t).windows }
  pub over : (t : ℕ) → (history.end t).over ≡ true → states t ≡ history.end t

-- tasks stand on the way of a leg: they are those of its layout, over its input
pub record AreOnTheWay (g : GivenData) (tasks : List TaskData) : Type 0 where
  pub given : IsGiven g
  pub count : length tasks ≡ task_count g.layout.stages
  pub placed : (t : ℕ) (d : TaskData) → t < task_count g.layout.stages → IsPlaced g.plan g.input ((layout_in g).task t) (slice_index_or tasks t d)
  pub come : HasCome g (state_at g tasks)

-- the cut of a leg's barrier m, counted from 0, which is no earlier than where the leg began: of a savepoint on the way
-- the one that it was to be taken at, and of the stop the one that the leg was to stop at
pub record IsBarrierCut (g : GivenData) (m : ℕ) (cut : List (List ℕ)) : Type 0 where
  pub is_cut : IsCut g.input.sources cut
  pub no_earlier : IsBefore (offsets_of g.start) cut
  pub on_the_way : m < length g.saves → cut ≡ slice_index_or g.saves m []
  pub at_the_stop : (end : List (List ℕ)) → length g.saves ≤ m → g.until ≡ ToCut end → cut ≡ end

-- what was sealed is all that the leg owes up to its barrier's cut: every task has put the barrier on each of its
-- outputs, and where the start had the snapshot of its cut, the rows are those that became due from there to the
-- barrier's, each once, and the savepoint is that cut's
pub record IsSealOf (g : GivenData) (states : ℕ → State) (x : Sealed) : Type 0 where
  pub passed : ℕ
  pub barrier : x.barrier ≡ suc passed
  pub come : HasCome g states
  pub complete : IsCompleteTo passed come.history
  pub cut : List (List ℕ)
  pub is_cut : IsBarrierCut g passed cut
  pub delivered : HasSnapshot g.plan g.input g.start → AreRowsOf (due_between g.plan g.input.sources (offsets_of g.start) cut) x.rows
  pub saved : HasSnapshot g.plan g.input g.start → IsSavedAt g.plan g.input cut (g.start.number + x.barrier) x.savepoint
