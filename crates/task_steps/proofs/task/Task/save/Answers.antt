use Rattle.std.proofs.Common.{◌≡◌, ◌+◌, ◌++◌, [], ◌∷◌, suc, true, refl, ap, sym, ◌∙◌, rules}
use Rattle.dataflow_model.specs.declared.message.Message.TheVariants.{Barrier}
use Rattle.dataflow_model.specs.State.{State, kept_of}
use Rattle.dataflow_model.specs.Routes.{to_all}
use Rattle.task_steps.specs.TaskData.{TaskData}
use Rattle.task_steps.specs.Running.{IsSavable}
use Rattle.task_steps.proofs.Going.{goes_on}
use Rattle.task_steps.proofs.Runnings.{can_run, may_save, save_step}
use Rattle.task_steps.proofs.task.Task.save.Goals as goal

abbrev saved : TaskData → State
saved v = record v.state { next = suc v.state.next; kept = v.state.kept ++ kept_of v.state ∷ []; pending = to_all v.setup.outputs (Barrier (v.setup.first + v.state.next)) }

pub returns-in-Ok : goal.returns-in-Ok
returns-in-Ok c =
    let d = c.args.self.now in
    let can : IsSavable d = search rules in
    let sends : TaskData → TaskData = λ v. record v { state = record v.state { next = suc v.state.next; pending = to_all v.setup.outputs (Barrier (v.setup.first + v.state.next)) } } in
    let made : c.send_barrier.new.self ≡ record d { state = saved d } = c.send_barrier.ensures ∙ ap sends c.in-Ok.ensures.kept in (
      sym (ap (λ (v : TaskData). v.has_failed) c.self.view_is) ∙ c.if-self.false,
      goes_on d c.send_barrier.new.self (saved d) made,
      λ p k st. save_step p k d c.send_barrier.new.self.state st can (ap (λ (v : TaskData). v.state) made),
    )

pub returns-in-Err : goal.returns-in-Err
returns-in-Err c =
    let d = c.args.self.now in
    let can : IsSavable d = search rules in (
      sym (ap (λ (v : TaskData). v.has_failed) c.self.view_is) ∙ c.if-self.false,
      record {
        windows = d.state.windows;
        spoiled = λ _. refl;
        going = can.running.going;
        is = ap (λ (v : TaskData). record v { has_failed = true }) (c.self-in-Err.view_is ∙ c.in-Err.ensures.err);
      },
      λ p k st. (can_run p k d st can.running, may_save p k d st can),
    )
