use Rattle.std.proofs.Common.{◌≡◌, ◌++◌, [], true, ap, sym, ◌∙◌, rules}
use Rattle.dataflow_model.specs.declared.message.Message.TheVariants.{End}
use Rattle.dataflow_model.specs.State.{State}
use Rattle.dataflow_model.specs.Routes.{to_all}
use Rattle.task_steps.specs.TaskData.{TaskData, task_view}
use Rattle.task_steps.specs.Running.{IsClosable}
use Rattle.task_steps.proofs.Runnings.{close_step}
use Rattle.task_steps.proofs.task.Task.close.Goals as goal

pub returns-clause-steps : goal.returns-clause-steps
returns-clause-steps c =
    let s = c.self.inside in
    let d = c.args.self.now in
    let inside = task_view s in
    let can : IsClosable d = search rules in
    let idle : s.pending.items ≡ [] = ap (λ (v : TaskData). v.state.pending) c.self.view_is ∙ can.running.idle in
    let now : State = record inside.state { over = true; pending = c.to_all.new.pending.items } in
    let sent : c.to_all.new.pending.items ≡ to_all s.setup.outputs End = c.to_all.ensures.pending ∙ ap (λ l. l ++ to_all s.setup.outputs End) idle in
    let made : now ≡ record d.state { over = true; pending = to_all d.setup.outputs End } =
    (λ j. record inside.state { over = true; pending = sent j }) ∙ ap (λ (v : TaskData). record v.state { over = true; pending = to_all v.setup.outputs End }) c.self.view_is in (
      sym (ap (λ (v : TaskData). v.has_failed) c.self.view_is) ∙ c.if-self.false,
      record { is = ap (λ (v : TaskData). record v { state = now }) c.self.view_is },
      λ p k st. close_step p k d now st can made,
    )
