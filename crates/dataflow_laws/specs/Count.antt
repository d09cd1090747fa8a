-- How many records a task takes.
use Rattle.std.specs.Prelude.{ℕ, ◌<◌, ◌≤◌, length, if◌then◌else◌}
use Rattle.plan_model.specs.PlanData.{PlanData}
use Rattle.dataflow_model.specs.Message.{records_of}
use Rattle.dataflow_model.specs.Role.{is_source}
use Rattle.dataflow_model.specs.Sums.{total}
use Rattle.dataflow_model.specs.AbstractLayout.{AbstractLayout, IsLayout}
use Rattle.dataflow_model.specs.State.{State}
use Rattle.dataflow_model.specs.Start.{IsLegStart}
use Rattle.dataflow_model.specs.History.{History}

-- how many records all partitions have
abbrev pub record_count : AbstractLayout → ℕ
record_count l = total l.before (λ t. if is_source (l.task t).role then total (l.task t).inputs (λ q. total ((l.task t).size q) (λ n. length (records_of ((l.task t).entry q n)))) else 0)

-- at every moment, no task before the sink has taken more
abbrev pub TakesNoMore : Type 0
TakesNoMore = (p : PlanData) (l : AbstractLayout) (start : ℕ → State) → IsLayout l → IsLegStart p l start → (h : History p l start) → (t : ℕ) → t < l.sink → (h.end t).taken ≤ record_count l
