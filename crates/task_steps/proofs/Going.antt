-- A task that goes on.
use Rattle.std.proofs.Common.{◌≡◌, ap, sym, ◌∙◌}
use Rattle.dataflow_model.specs.State.{State}
use Rattle.task_steps.specs.TaskData.{TaskData}
use Rattle.task_steps.specs.Answers.{GoesOn}

-- what differs in its state alone
pub goes_on : (old new : TaskData) (s : State) → new ≡ record old { state = s } → GoesOn old new
goes_on old new s made = record { is = made ∙ ap (λ (v : TaskData). record old { state = v.state }) (sym made) }
