use Rattle.std.proofs.Common.{◌≡◌, ◌++◌, true, refl, ap, sym, ◌∙◌}
use Rattle.dataflow_model.specs.State.{State}
use Rattle.task_steps.specs.TaskData.{TaskData, task_view}
use Rattle.task_steps.proofs.Marks.{sink_rows_step, takes_fired_here}
use Rattle.task_steps.proofs.Over.{going, windowing_failed}
use Rattle.task_steps.proofs.Shutting.{failed_so}
use Rattle.task_steps.proofs.task.Task.sink_rows.Goals as goal

pub invariant_of-self-in-Err : goal.invariant_of-self-in-Err
invariant_of-self-in-Err c =
    let s = c.self.inside in
    failed_so s (record s { rows = c.collect.new.rows; has_failed = true }) c.self.invariant (going s c.args.self.now c.args.i c.self.invariant c.self.view_is c.requires.ready) refl refl refl (windowing_failed s.setup s.taken s.has_failed s.window c.self.invariant.windowing) refl

pub returns-in-Ok : goal.returns-in-Ok
returns-in-Ok c =
    let s = c.self.inside in
    let d = c.args.self.now in
    let inside = task_view s in
    let now : State = record inside.state { rows = c.collect.new.rows.items } in
    let made : now ≡ record d.state { rows = d.state.rows ++ c.args.rows } =
    (λ j. record inside.state { rows = c.in-Ok.ensures.collected j }) ∙ ap (λ (v : TaskData). record v.state { rows = v.state.rows ++ c.args.rows }) c.self.view_is in (
      c.requires.going,
      record { is = ap (λ (v : TaskData). record v { state = now }) c.self.view_is },
      λ p k st. sink_rows_step p k d c.args.i c.args.rows now st c.requires.sink c.requires.ready made,
    )

pub returns-in-Err : goal.returns-in-Err
returns-in-Err c =
    let s = c.self.inside in
    let d = c.args.self.now in
    let inside = task_view s in (
      c.requires.going,
      record {
        windows = d.state.windows;
        spoiled = λ _. refl;
        going = ap (λ (v : TaskData). v.state.over) (sym c.self.view_is) ∙ going s d c.args.i c.self.invariant c.self.view_is c.requires.ready;
        is = (λ j. record inside { state = record inside.state { rows = c.in-Err.ensures.kept j }; has_failed = true }) ∙ ap (λ (v : TaskData). record v { has_failed = true }) c.self.view_is;
      },
      λ p k st. takes_fired_here p k d c.args.i c.args.rows st c.requires.sink c.requires.ready,
    )
