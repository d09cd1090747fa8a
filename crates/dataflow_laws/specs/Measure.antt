-- A number that each move lowers.
use Rattle.std.specs.Prelude.{ℕ, zero, suc, ◌+◌, ◌-◌, ◌*◌, ◌<◌, List, [], ◌∷◌, length, slice_index, if◌then◌else◌}
use Rattle.plan_model.specs.PlanData.{PlanData}
use Rattle.dataflow_model.specs.declared.message.Message.{Message}
use Rattle.dataflow_model.specs.Sums.{total}
use Rattle.dataflow_model.specs.AbstractTask.{AbstractTask}
use Rattle.dataflow_model.specs.AbstractLayout.{AbstractLayout, IsLayout}
use Rattle.dataflow_model.specs.State.{State}
use Rattle.dataflow_model.specs.Steps.{Event}
use Rattle.dataflow_laws.specs.World.{World, Move, IsEnd}
use Rattle.dataflow_model.specs.Start.{IsLegStart}

-- what a message on a ring into task t can still cause, in tasks that are up to so many rings away
abbrev pub cost_upto : AbstractLayout → ℕ → ℕ → ℕ
cost_upto l zero t = 0
cost_upto l (suc n) t = 1 + 2 * total (l.task t).outputs (λ j. 1 + cost_upto l n (l.to t j))

abbrev pub cost : AbstractLayout → ℕ → ℕ
cost l t = cost_upto l (suc l.sink - t) t

abbrev pub pending_cost : AbstractLayout → ℕ → List (ℕ × Message) → ℕ
pending_cost l t [] = 0
pending_cost l t (x ∷ ps) = 1 + cost l (l.to t x.0) + pending_cost l t ps

-- how many steps of its own a task has left: to open, to end, for each savepoint and for each entry
abbrev pub own_steps : AbstractTask → State → ℕ
own_steps k s = (if s.opened then 0 else 1) + (if s.over then 0 else 1) + (k.saves - s.next) + total k.inputs (λ q. k.size q - slice_index s.offsets q)

abbrev pub task_cost : AbstractLayout → ℕ → State → ℕ
task_cost l t s = pending_cost l t s.pending + cost l t * own_steps (l.task t) s

abbrev pub world_cost : AbstractLayout → World → ℕ
world_cost l w = total (suc l.sink) (λ t. task_cost l t (w.tasks t)) + total (suc l.sink) (λ s. total (suc l.sink) (λ t. cost l t * length (w.rings s t)))

-- so worlds come to an end, whatever the order of moves
abbrev pub Falls : Type 0
Falls = (p : PlanData) (l : AbstractLayout) (capacity : ℕ) (start : ℕ → State) (w : World) (t : ℕ) (e : Event) (w' : World) → IsLayout l → IsLegStart p l start → IsEnd p l start w → Move p l capacity w t e w' → world_cost l w' < world_cost l w
