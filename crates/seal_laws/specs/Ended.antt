-- How many barriers the tasks of a leg have passed that has ended.
use Rattle.std.specs.Prelude.{ℕ, ◌≤◌}
use Rattle.plan_model.specs.PlanData.{PlanData}
use Rattle.dataflow_model.specs.AbstractLayout.{AbstractLayout, IsLayout}
use Rattle.dataflow_model.specs.State.{State}
use Rattle.dataflow_model.specs.Start.{IsLegStart}
use Rattle.dataflow_model.specs.History.{History, IsComplete}

-- once all tasks are done, each has passed the barriers of all savepoints on the way
abbrev pub EndedHavePassed : Type 0
EndedHavePassed = (p : PlanData) (l : AbstractLayout) (start : ℕ → State) → IsLayout l → IsLegStart p l start → (h : History p l start) → IsComplete h → (t : ℕ) → t ≤ l.sink → (l.task t).saves ≤ (h.end t).next
