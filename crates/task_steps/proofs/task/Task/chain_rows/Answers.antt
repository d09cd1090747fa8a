use Rattle.std.proofs.Common.{◌≡◌, ◌+◌, length, true, refl, ap, sym, ◌∙◌}
use Rattle.std.specs.List.{filter}
use Rattle.columns.specs.Parts.{with_rows}
use Rattle.plan_model.specs.Windows.{passes}
use Rattle.dataflow_model.specs.State.{State}
use Rattle.dataflow_model.specs.Routes.{next_cursor}
use Rattle.task_steps.specs.Sending.{sends}
use Rattle.task_steps.specs.TaskData.{TaskData, task_view}
use Rattle.task_steps.proofs.Standing.{chain_step, takes_rows_here}
use Rattle.task_steps.proofs.Over.{going, windowing_failed}
use Rattle.task_steps.proofs.Shutting.{failed_so}
use Rattle.task_steps.proofs.task.Task.chain_rows.Goals as goal

pub returns-in-Ok : goal.returns-in-Ok
returns-in-Ok c =
    let d = c.args.self.now in
    let t = c.args.batch in
    let inside = task_view c.self.inside in
    let now : State = record inside.state { cursor = c.records_through.new.cursor; taken = c.self.inside.taken + c.len-count.result; pending = c.records_through.new.pending.items } in
    let made : now ≡ record d.state {
      cursor = next_cursor d.setup.outputs d.state.cursor (filter (passes d.setup.filters) t.rows);
      taken = d.state.taken + length t.rows;
      pending = sends d.setup.split d.setup.outputs d.setup.key d.state.cursor (with_rows t (filter (passes d.setup.filters) t.rows));
    } =
    (λ j. record inside.state { cursor = c.in-Ok.ensures.turn j; taken = c.self.inside.taken + c.len-count.ensures.says j; pending = c.in-Ok.ensures.pending j })
    ∙ ap (λ (v : TaskData). record v.state {
      cursor = next_cursor v.setup.outputs v.state.cursor (filter (passes v.setup.filters) t.rows);
      taken = v.state.taken + length t.rows;
      pending = sends v.setup.split v.setup.outputs v.setup.key v.state.cursor (with_rows t (filter (passes v.setup.filters) t.rows));
    }) c.self.view_is in (
      c.requires.going,
      record { is = ap (λ (v : TaskData). record v { state = now }) c.self.view_is },
      λ p k st. chain_step p k d c.args.i t now st c.requires.chain c.requires.ready c.requires.admitted made,
    )

pub invariant_of-self-in-Err : goal.invariant_of-self-in-Err
invariant_of-self-in-Err c =
    let s = c.self.inside in
    failed_so s (record s { cursor = c.records_through.new.cursor; pending = c.records_through.new.pending; has_failed = true }) c.self.invariant (going s c.args.self.now c.args.i c.self.invariant c.self.view_is c.requires.ready) refl c.records_through.ensures.capacity c.in-Err.ensures.kept_turn
    (windowing_failed s.setup s.taken s.has_failed s.window c.self.invariant.windowing) refl

pub returns-in-Err : goal.returns-in-Err
returns-in-Err c =
    let d = c.args.self.now in
    let inside = task_view c.self.inside in (
      c.requires.going,
      record {
        windows = d.state.windows;
        spoiled = λ _. refl;
        going = ap (λ (v : TaskData). v.state.over) (sym c.self.view_is) ∙ going c.self.inside d c.args.i c.self.invariant c.self.view_is c.requires.ready;
        is = (λ j. record inside { state = record inside.state { cursor = c.in-Err.ensures.kept_turn j; pending = c.in-Err.ensures.kept j }; has_failed = true })
            ∙ ap (λ (v : TaskData). record v { has_failed = true }) c.self.view_is;
      },
      λ p k st. takes_rows_here p k d c.args.i c.args.batch st c.requires.ready c.requires.admitted,
    )
