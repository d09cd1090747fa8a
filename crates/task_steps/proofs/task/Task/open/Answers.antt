use Rattle.std.proofs.Common.{◌≡◌, ◌++◌, [], true, ap, sym, ◌∙◌, rules}
use Rattle.plain_data.specs.Times.{lowest}
use Rattle.input_state.specs.Inputs.{least, risen}
use Rattle.dataflow_model.specs.State.{State}
use Rattle.dataflow_model.specs.Routes.{announce}
use Rattle.task_steps.specs.TaskData.{TaskData, task_view}
use Rattle.task_steps.specs.Running.{IsOpenable}
use Rattle.task_steps.proofs.Runnings.{open_step}
use Rattle.task_steps.proofs.task.Task.open.Goals as goal

pub returns-clause-steps : goal.returns-clause-steps
returns-clause-steps c =
    let s = c.self.inside in
    let d = c.args.self.now in
    let inside = task_view s in
    let can : IsOpenable d = search rules in
    let idle : s.pending.items ≡ [] = ap (λ (v : TaskData). v.state.pending) c.self.view_is ∙ can.idle in
    let now : State = record inside.state { opened = true; pending = c.announce.new.pending.items } in
    let sent : c.announce.new.pending.items ≡ announce s.setup.outputs (risen lowest (least s.inputs.marks)) =
    c.announce.ensures.pending ∙ (λ j. idle j ++ announce s.setup.outputs (c.least_known-low.ensures j)) in
    let made : now ≡ record d.state { opened = true; pending = announce d.setup.outputs (risen lowest (least d.state.inputs.marks)) } =
    (λ j. record inside.state { opened = true; pending = sent j })
    ∙ ap (λ (v : TaskData). record v.state { opened = true; pending = announce v.setup.outputs (risen lowest (least v.state.inputs.marks)) }) c.self.view_is in (
      sym (ap (λ (v : TaskData). v.has_failed) c.self.view_is) ∙ c.if-self.false,
      record { is = ap (λ (v : TaskData). record v { state = now }) c.self.view_is },
      λ p k st. open_step p k d now st can made,
    )
