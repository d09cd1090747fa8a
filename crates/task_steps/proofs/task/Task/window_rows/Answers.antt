use Rattle.std.proofs.Common.{◌≡◌, ◌+◌, length, true, false, refl, ap, sym, ◌∙◌, arith}
use Rattle.std.specs.Prelude.{Some, option_map}
use Rattle.plan_model.specs.declared.spec.WindowSpec.{WindowSpec}
use Rattle.window_state.specs.State.{StateData}
use Rattle.dataflow_model.specs.State.{State}
use Rattle.task_steps.specs.TaskData.{TaskData, task_view, windows_in, IsWindowing}
use Rattle.task_steps.proofs.Counts.{windowing_after, room_for}
use Rattle.task_steps.proofs.Standing.{window_step, takes_rows_here}
use Rattle.task_steps.proofs.Keeping.{kept_still, operator_still}
use Rattle.task_steps.proofs.Over.{going, windowing_spoiled}
use Rattle.task_steps.proofs.Shutting.{failed_so}
use Rattle.task_steps.proofs.task.Task.window_rows.Goals as goal

pub add-requires-clause-room : goal.add-requires-clause-room
add-requires-clause-room c =
    let s = c.self.inside in
    let was : IsWindowing s.setup s.taken s.has_failed (Some c.in-Some.window) = rw c.in-Some.is at c.self.invariant.windowing in
    let taken : s.taken ≡ c.args.self.now.state.taken = ap (λ (v : TaskData). v.state.taken) c.self.view_is in
    let going : s.has_failed ≡ false = ap (λ (v : TaskData). v.has_failed) c.self.view_is ∙ c.requires.going in
    let few = c.requires.admitted.few in
    room_for s.taken c.in-Some.window c.args.batch.rows (was.3 going) (omega arith)

pub invariant_of-self-in-Ok : goal.invariant_of-self-in-Ok
invariant_of-self-in-Ok c =
    let s = c.self.inside in
    let was : IsWindowing s.setup s.taken s.has_failed (Some c.in-Some.window) = rw c.in-Some.is at c.self.invariant.windowing in
    let count : c.len-count.result ≡ length c.args.batch.rows = c.len-count.ensures.says in
    let taken : s.taken ≡ c.args.self.now.state.taken = ap (λ (v : TaskData). v.state.taken) c.self.view_is in
    let few = c.requires.admitted.few in
    let inv = c.self.invariant in
    record {
      room = inv.room;
      time = inv.time;
      key = inv.key;
      filters = inv.filters;
      split = inv.split;
      turn = inv.turn;
      offsets = inv.offsets;
      some = inv.some;
      numbers = inv.numbers;
      next = inv.next;
      ended = inv.ended;
      held = inv.held;
      failed = inv.failed;
      marks = inv.marks;
      shut = inv.shut;
      windowing = windowing_after s.setup s.taken c.len-count.result s.has_failed c.in-Some.window c.add.new.self c.args.batch.rows was c.add.ensures.window_stays (omega arith) c.in-Ok.ensures.added;
      taken = omega arith;
      kept = kept_still s c.in-Some.window c.add.new.self c.in-Some.is c.add.ensures.window_stays inv.kept;
    }

pub returns-in-Ok : goal.returns-in-Ok
returns-in-Ok c =
    let s = c.self.inside in
    let d = c.args.self.now in
    let t = c.args.batch in
    let inside = task_view s in
    let old = c.in-Some.window in
    let new = c.add.new.self in
    let now : State = record inside.state { taken = s.taken + c.len-count.result; windows = new.windows } in
    let made : now ≡ record d.state { taken = d.state.taken + length t.rows; windows = new.windows } =
    (λ j. record inside.state { taken = s.taken + c.len-count.ensures.says j; windows = new.windows })
    ∙ ap (λ (v : TaskData). record v.state { taken = v.state.taken + length t.rows; windows = new.windows }) c.self.view_is in
    let window : Some new.window ≡ option_map (λ (w : StateData). w.window) s.window = ap (λ (w : WindowSpec). Some w) c.add.ensures.window_stays ∙ sym (ap (option_map (λ (w : StateData). w.window)) c.in-Some.is) in
    let has : d.window ≡ Some old.window = sym (ap (λ (v : TaskData). v.window) c.self.view_is) ∙ ap (option_map (λ (w : StateData). w.window)) c.in-Some.is in
    let holds : d.state.windows ≡ old.windows = sym (ap (λ (v : TaskData). v.state.windows) c.self.view_is) ∙ ap windows_in c.in-Some.is in (
      c.requires.going,
      record { is = (λ j. record inside { window = window j; state = now }) ∙ ap (λ (v : TaskData). record v { state = now }) c.self.view_is },
      λ p k st. window_step p k d c.args.i t old new now st c.requires.window c.requires.ready c.requires.admitted has holds c.in-Ok.ensures.added made,
    )

pub invariant_of-self-in-Err : goal.invariant_of-self-in-Err
invariant_of-self-in-Err c =
    let s = c.self.inside in
    let was : IsWindowing s.setup s.taken s.has_failed (Some c.in-Some.window) = rw c.in-Some.is at c.self.invariant.windowing in
    failed_so s (record s { window = Some c.add.new.self; has_failed = true }) c.self.invariant (going s c.args.self.now c.args.i c.self.invariant c.self.view_is c.requires.ready) refl refl refl
    (windowing_spoiled s.setup s.taken s.has_failed c.in-Some.window c.add.new.self was c.add.ensures.window_stays)
    (operator_still s c.in-Some.window c.add.new.self c.in-Some.is c.add.ensures.window_stays)

pub returns : goal.returns
returns c =
    let s = c.self.inside in
    let d = c.args.self.now in
    let inside = task_view s in
    let new = c.add.new.self in
    let window : Some new.window ≡ option_map (λ (w : StateData). w.window) s.window = ap (λ (w : WindowSpec). Some w) c.add.ensures.window_stays ∙ sym (ap (option_map (λ (w : StateData). w.window)) c.in-Some.is) in (
      c.requires.going,
      record {
        windows = new.windows;
        spoiled = λ rows. (absurd cc);
        going = ap (λ (v : TaskData). v.state.over) (sym c.self.view_is) ∙ going s d c.args.i c.self.invariant c.self.view_is c.requires.ready;
        is = (λ j. record inside { window = window j; state = record inside.state { windows = new.windows }; has_failed = true })
            ∙ ap (λ (v : TaskData). record v { state = record v.state { windows = new.windows }; has_failed = true }) c.self.view_is;
      },
      λ p k st. takes_rows_here p k d c.args.i c.args.batch st c.requires.ready c.requires.admitted,
    )
