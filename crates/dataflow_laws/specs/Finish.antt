-- Legs whose tasks begin in opening states, over admitted inputs, come to their ends.
use Rattle.std.specs.Prelude.{ℕ, ◌<◌}
use Rattle.plan_model.specs.PlanData.{PlanData}
use Rattle.dataflow_model.specs.AbstractLayout.{AbstractLayout, IsLayout}
use Rattle.dataflow_model.specs.State.{State}
use Rattle.dataflow_model.specs.Steps.{Event}
use Rattle.dataflow_model.specs.History.{History, IsComplete}
use Rattle.dataflow_laws.specs.World.{World, Move, IsEnd}
use Rattle.dataflow_model.specs.Start.{IsLegStart}
use Rattle.dataflow_laws.specs.Admission.{IsAdmittedInput}
use Rattle.dataflow_laws.specs.Progress.{IsFinished}

-- moves, one after another
pub data Leads (p : PlanData) (l : AbstractLayout) (capacity : ℕ) : World → World → Type 0 where
  stays : {w : World} → Leads p l capacity w w
  goes : {w : World} {t : ℕ} {e : Event} {w' w'' : World} → Move p l capacity w t e w' → Leads p l capacity w' w'' → Leads p l capacity w w''

-- from wherever a history of such a leg ends, at every capacity of at least 1, moves lead to where all tasks are done,
-- and a history ends there
abbrev pub WorldsFinish : Type 0
WorldsFinish = (p : PlanData) (l : AbstractLayout) (capacity : ℕ) (start : ℕ → State) (w : World) → IsLayout l → 0 < capacity → IsLegStart p l start → IsAdmittedInput p l → IsEnd p l start w → (w' : World) × Leads p l capacity w w' × IsFinished l w' × IsEnd p l start w'

-- so each leg whose tasks begin in opening states, over an admitted input, has a complete history
abbrev pub LegsComplete : Type 0
LegsComplete = (p : PlanData) (l : AbstractLayout) (start : ℕ → State) → IsLayout l → IsLegStart p l start → IsAdmittedInput p l → (h : History p l start) × IsComplete h
