-- Flows: lists of local steps where only the order on each ring is kept, and messages that are pending for a ring count
-- as put on it.
use Rattle.std.specs.Prelude.{◌≡◌, ℕ, ◌<◌, List, ◌++◌, true}
use Rattle.plan_model.specs.PlanData.{PlanData}
use Rattle.dataflow_model.specs.declared.message.Message.{Message}
use Rattle.dataflow_model.specs.declared.role.Role.TheVariants.{Source}
use Rattle.dataflow_model.specs.AbstractLayout.{AbstractLayout}
use Rattle.dataflow_model.specs.State.{State}
use Rattle.dataflow_model.specs.Steps.{Event}
use Rattle.dataflow_model.specs.Runs.{Run, taken, given}

-- each task's steps lead from where it starts to its end, and what a ring's receiver took is the older part of what its
-- sender put or has pending
pub record Flow (p : PlanData) (l : AbstractLayout) (start : ℕ → State) : Type 0 where
  pub steps : ℕ → List Event
  pub end : ℕ → State
  pub run : (t : ℕ) → Run p (l.task t) (start t) (steps t) (end t)
  pub ahead : (s t : ℕ) → l.ring s t ≡ true → (x : List Message) × (given (l.out_at s t) (steps s) (end s) ≡ x ++ taken (l.in_at s t) (steps t))

-- all that was put on a ring, or is pending for it, was taken from it, and each source was opened
pub record IsDrained {p : PlanData} {l : AbstractLayout} {start : ℕ → State} (f : Flow p l start) : Type 0 where
  pub rings : (s t : ℕ) → l.ring s t ≡ true → given (l.out_at s t) (f.steps s) (f.end s) ≡ taken (l.in_at s t) (f.steps t)
  pub opened : (t : ℕ) → t < l.before → (l.task t).role ≡ Source → (f.end t).opened ≡ true
