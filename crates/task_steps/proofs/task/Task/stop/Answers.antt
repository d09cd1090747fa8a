use Rattle.std.proofs.Common.{◌≡◌, ◌+◌, suc, true, ap, sym, ◌∙◌, rules}
use Rattle.dataflow_model.specs.declared.message.Message.TheVariants.{Barrier}
use Rattle.dataflow_model.specs.State.{State}
use Rattle.dataflow_model.specs.Routes.{to_all}
use Rattle.task_steps.specs.TaskData.{TaskData}
use Rattle.task_steps.specs.Running.{IsStoppable}
use Rattle.task_steps.proofs.Going.{goes_on}
use Rattle.task_steps.proofs.Runnings.{stop_step}
use Rattle.task_steps.proofs.task.Task.stop.Goals as goal

abbrev stopped : TaskData → State
stopped v = record v.state { over = true; next = suc v.state.next; pending = to_all v.setup.outputs (Barrier (v.setup.first + v.state.next)) }

pub returns-clause-steps : goal.returns-clause-steps
returns-clause-steps c =
    let d = c.args.self.now in
    let can : IsStoppable d = search rules in
    let made : c.send_barrier.new.self ≡ record d { state = stopped d } = c.send_barrier.ensures ∙ ap (λ (v : TaskData). record v { state = stopped v }) c.self.view_is in (
      sym (ap (λ (v : TaskData). v.has_failed) c.self.view_is) ∙ c.if-self.false,
      goes_on d c.send_barrier.new.self (stopped d) made,
      λ p k st. stop_step p k d c.send_barrier.new.self.state st can (ap (λ (v : TaskData). v.state) made),
    )
