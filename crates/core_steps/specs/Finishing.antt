-- How a leg ends.
use Rattle.std.specs.Prelude.{◌≡◌, ℕ, ◌+◌, ◌<◌, nat_lt, Bool, List, [], ◌∷◌, length, slice_index_or, true, false}
use Rattle.plan_model.specs.declared.spec.Row.{Row}
use Rattle.dataflow_model.specs.State.{State}
use Rattle.dataflow_model.specs.History.{History, IsComplete}
use Rattle.dataflow_laws.specs.Progress.{IsFinished}
use Rattle.layout_rules.specs.Stages.{task_count}
use Rattle.savepoint_codec.specs.declared.savepoint.Contents.{Contents}
use Rattle.task_steps.specs.TaskData.{TaskData}
use Rattle.leg_tasks.specs.Leaving.{savepoint_left}
use Rattle.core_steps.specs.declared.finish.Finish.{Finish}
use Rattle.core_steps.specs.declared.finish.Finish.TheVariants.{Ended, Stopped, Abandoned}
use Rattle.core_steps.specs.Given.{GivenData, layout_in, start_in}
use Rattle.core_steps.specs.Sealing.{IsSealed}
use Rattle.core_steps.specs.World.{WorldData, world_in, state_at, IsGiven, IsPlaced}

-- the rows that the sink has collected, where tasks are in these states
abbrev pub rows_of : GivenData → (ℕ → State) → List Row
rows_of g states = (states (layout_in g).sink).rows

-- the number of the savepoint that a leg leaves where it stops: it follows the one that the leg went on from, and those
-- at these cuts on its way
abbrev pub number_after : ℕ → List (List (List ℕ)) → ℕ
number_after n [] = n + 1
number_after n (cut ∷ cuts) = number_after (n + 1) cuts

-- the savepoint that they leave
abbrev pub savepoint_of : GivenData → (ℕ → State) → Contents
savepoint_of g states = savepoint_left g.plan g.layout.stages states (number_after g.start.number g.saves)

-- whether the leg has stopped: its sink has passed one barrier more than the savepoints on the way have
abbrev pub has_stopped : GivenData → (ℕ → State) → Bool
has_stopped g states = nat_lt (length g.saves) (states (layout_in g).sink).next

-- how a leg ended with its tasks in these states: it came to its end, with what it has sealed, or it stopped, with the
-- savepoint that they leave
abbrev pub IsFinishOf : GivenData → (ℕ → State) → Finish → Type 0
IsFinishOf g states (Ended rows sealed) = (has_stopped g states ≡ false) × (rows ≡ rows_of g states) × IsSealed g states sealed
IsFinishOf g states (Stopped rows savepoint) = (has_stopped g states ≡ true) × (rows ≡ rows_of g states) × (savepoint ≡ savepoint_of g states)
IsFinishOf g states (Abandoned sealed) = ⊥

-- a leg has ended with its tasks in these states, in one world or on threads: what it was given is such as legs are
-- given, and a complete history, which has no order between tasks, leads there from where they began
pub record HasEnded (g : GivenData) (states : ℕ → State) : Type 0 where
  pub given : IsGiven g
  pub history : History g.plan (layout_in g) (start_in g)
  pub ends : history.end ≡ states
  pub complete : IsComplete history

-- tasks stand where a leg has ended: they are those of its layout, over its input
pub record AreAtEnd (g : GivenData) (tasks : List TaskData) : Type 0 where
  pub count : length tasks ≡ task_count g.layout.stages
  pub placed : (t : ℕ) (d : TaskData) → t < task_count g.layout.stages → IsPlaced g.plan g.input ((layout_in g).task t) (slice_index_or tasks t d)
  pub ended : HasEnded g (state_at g tasks)

-- the same of a world
abbrev pub rows_in : WorldData → List Row
rows_in w = rows_of w.given (world_in w).tasks

abbrev pub IsFinishIn : WorldData → Finish → Type 0
IsFinishIn w finish = IsFinishOf w.given (world_in w).tasks finish

-- all tasks are done, and none was stopped by want of memory
pub record HasFinished (w : WorldData) : Type 0 where
  pub going : w.has_failed ≡ false
  pub finished : IsFinished (layout_in w.given) (world_in w)
