-- A world that is the end of a history and is not finished has a move.
use Rattle.std.specs.Prelude.{◌⊎◌, ℕ, ◌<◌, ◌≤◌}
use Rattle.plan_model.specs.PlanData.{PlanData}
use Rattle.dataflow_model.specs.AbstractLayout.{AbstractLayout, IsLayout}
use Rattle.dataflow_model.specs.State.{State}
use Rattle.dataflow_model.specs.Steps.{Event, IsDone}
use Rattle.dataflow_laws.specs.World.{World, Move, IsEnd}
use Rattle.dataflow_model.specs.Start.{IsLegStart}
use Rattle.dataflow_laws.specs.Admission.{IsAdmittedInput}

-- every task is over, with nothing pending
abbrev pub IsFinished : AbstractLayout → World → Type 0
IsFinished l w = (t : ℕ) → t ≤ l.sink → IsDone (w.tasks t)

pub record HasMove (p : PlanData) (l : AbstractLayout) (capacity : ℕ) (w : World) : Type 0 where
  pub task : ℕ
  pub event : Event
  pub next : World
  pub move : Move p l capacity w task event next

-- in one leg whose tasks begin in opening states, over an admitted input, at every capacity of at least 1, whatever the
-- leg's savepoints and its ending
abbrev pub Progress : Type 0
Progress = (p : PlanData) (l : AbstractLayout) (capacity : ℕ) (start : ℕ → State) (w : World) → IsLayout l → 0 < capacity → IsLegStart p l start → IsAdmittedInput p l → IsEnd p l start w → IsFinished l w ⊎ HasMove p l capacity w
