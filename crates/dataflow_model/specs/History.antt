-- Histories: a list of local steps for each task, and one equation for each ring. There is no order between tasks.
use Rattle.std.specs.Prelude.{◌≡◌, ℕ, ◌≤◌, List, ◌++◌, true}
use Rattle.plan_model.specs.PlanData.{PlanData}
use Rattle.dataflow_model.specs.Message.{Message}
use Rattle.dataflow_model.specs.AbstractLayout.{AbstractLayout}
use Rattle.dataflow_model.specs.State.{State}
use Rattle.dataflow_model.specs.Steps.{Event, IsDone}
use Rattle.dataflow_model.specs.Runs.{Run, taken, sent}

-- each task's steps lead from where it starts to its end, and what a ring's receiver took is a prefix of what its
-- sender put
pub record History (p : PlanData) (l : AbstractLayout) (start : ℕ → State) : Type 0 where
  pub steps : ℕ → List Event
  pub end : ℕ → State
  pub run : (t : ℕ) → Run p (l.task t) (start t) (steps t) (end t)
  pub holds : ℕ → ℕ → List Message
  pub rings : (s t : ℕ) → l.ring s t ≡ true → sent (l.out_at s t) (steps s) ≡ holds s t ++ taken (l.in_at s t) (steps t)

abbrev pub IsComplete : {p : PlanData} {l : AbstractLayout} {start : ℕ → State} → History p l start → Type 0
IsComplete {l = l} h = (t : ℕ) → t ≤ l.sink → IsDone (h.end t)
