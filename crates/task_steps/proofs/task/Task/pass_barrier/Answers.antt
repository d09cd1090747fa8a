use Rattle.std.proofs.Common.{ap, ◌∙◌}
use Rattle.input_state.specs.Inputs.{InputsData, any_held}
use Rattle.task_steps.proofs.Barriers.{none_held_after}
use Rattle.task_steps.proofs.task.Task.pass_barrier.Goals as goal

pub send_barrier-requires-in-Ok-clause-free : goal.send_barrier-requires-in-Ok-clause-free
send_barrier-requires-in-Ok-clause-free c = λ _ _. (ap (λ (v : InputsData). any_held v.shut) c.release.ensures ∙ none_held_after c.self-in-Ok.inside.inputs.shut)
