use Rattle.std.proofs.Common.{◌≡◌, ◌+◌, ◌*◌, ◌≤◌, ◌<◌, false, length, FitsSigned, to_z, of_z, true, refl, ap, sym, subst, ◌∙◌, arith}
use Rattle.std.specs.Prelude.{ℤ, Option, Some, option_map}
use Rattle.std.proofs.Math.ListN.{length-set}
use Rattle.plan_model.specs.declared.spec.WindowSpec.{WindowSpec}
use Rattle.std.specs.Int.{w64}
use Rattle.std.proofs.lemmas.Int.{to_z-of_z}
use Rattle.dataflow_model.specs.Role.{is_source}
use Rattle.task_steps.specs.Limits.{barriers_in}
use Rattle.input_state.specs.Inputs.{InputsData, all_shut, any_held, inputs_from, raised, rise}
use Rattle.window_state.specs.State.{StateData}
use Rattle.dataflow_model.specs.State.{State}
use Rattle.dataflow_model.specs.Steps.{with_mark}
use Rattle.task_steps.specs.TaskData.{TaskData, task_view, windows_in, IsWindowing}
use Rattle.task_steps.specs.Firing.{FiresHere}
use Rattle.task_steps.proofs.Marks.{windowing_fired, window_stays, mark_step, takes_mark_here}
use Rattle.task_steps.proofs.Keeping.{kept_still, operator_still}
use Rattle.task_steps.proofs.Over.{going, windowing_spoiled}
use Rattle.task_steps.proofs.Shutting.{failed_so}
use Rattle.task_steps.proofs.task.Task.window_mark.Goals as goal

pub invariant_of-self-in-Ok : goal.invariant_of-self-in-Ok
invariant_of-self-in-Ok c =
    let s = c.self.inside in
    let inv = c.self.invariant in
    let was : IsWindowing s.setup s.taken s.has_failed (Some c.in-Some.window) = rw c.in-Some.is at inv.windowing in
    record {
      room = subst (λ n. 2 * s.setup.outputs + 1 ≤ n) (sym c.fire_at.ensures.capacity) inv.room;
      time = inv.time;
      key = inv.key;
      filters = inv.filters;
      split = inv.split;
      turn = inv.turn;
      offsets = inv.offsets;
      some = inv.some;
      numbers = inv.numbers;
      next = inv.next;
      ended = subst (λ l. s.over ≡ true → is_source s.setup.role ≡ false → all_shut l ≡ true) (sym (ap (λ (v : InputsData). v.shut) c.watermark.ensures.moved)) inv.ended;
      held = subst (λ l. s.over ≡ false → is_source s.setup.role ≡ false → any_held l ≡ true → s.next < barriers_in s.setup) (sym (ap (λ (v : InputsData). v.shut) c.watermark.ensures.moved)) inv.held;
      failed = inv.failed;
      taken = inv.taken;
      windowing = windowing_fired s.setup s.taken s.has_failed c.rise-low.result c.in-Some.window c.fire_at.new.window s.setup.outputs c.fire_at.new.pending.items c.in-Ok.ensures.fires was;
      marks = let e = ap (λ (v : InputsData). length v.marks) c.watermark.ensures.moved in omega (arith, length-set {A = ℤ}, inv.marks);
      shut = ap (λ (v : InputsData). length v.shut) c.watermark.ensures.moved ∙ inv.shut;
      kept = kept_still s c.in-Some.window c.fire_at.new.window c.in-Some.is (window_stays c.rise-low.result c.in-Some.window c.fire_at.new.window s.setup.outputs c.fire_at.new.pending.items c.in-Ok.ensures.fires) inv.kept;
    }

pub returns-in-Ok : goal.returns-in-Ok
returns-in-Ok c =
    let s = c.self.inside in
    let d = c.args.self.now in
    let i = c.args.i in
    let t : ℤ = c.args.t in
    let inside = task_view s in
    let old = c.in-Some.window in
    let new = c.fire_at.new.window in
    let pending = c.fire_at.new.pending.items in
    let fits : FitsSigned w64 t = c.ranges.t in
    let same : to_z w64 (of_z w64 t) ≡ t = to_z-of_z w64 t fits in
    let low : c.rise-low.result ≡ rise inside.state.inputs.marks i t = c.rise-low.ensures ∙ (λ j. rise s.inputs.marks i (same j)) in
    let here = subst (λ (v : TaskData). FiresHere (rise v.state.inputs.marks i t) old new v.setup.outputs pending) c.self.view_is
    (subst (λ (l : Option ℤ). FiresHere l old new s.setup.outputs pending) low c.in-Ok.ensures.fires) in
    let now : State = record inside.state { inputs = c.watermark.new.self; windows = new.windows; pending = pending } in
    let moved : c.watermark.new.self ≡ with_mark inside.state i t = c.watermark.ensures.moved ∙ (λ j. inputs_from (raised s.inputs.marks i (same j)) s.inputs.shut) in
    let made : now ≡ record d.state { inputs = with_mark d.state i t; windows = new.windows; pending = pending } =
    (λ j. record inside.state { inputs = moved j; windows = new.windows; pending = pending })
    ∙ ap (λ (v : TaskData). record v.state { inputs = with_mark v.state i t; windows = new.windows; pending = pending }) c.self.view_is in
    let window : Some new.window ≡ option_map (λ (w : StateData). w.window) s.window =
    ap (λ (w : WindowSpec). Some w) (window_stays c.rise-low.result old new s.setup.outputs pending c.in-Ok.ensures.fires) ∙ sym (ap (option_map (λ (w : StateData). w.window)) c.in-Some.is) in
    let has : d.window ≡ Some old.window = sym (ap (λ (v : TaskData). v.window) c.self.view_is) ∙ ap (option_map (λ (w : StateData). w.window)) c.in-Some.is in
    let holds : d.state.windows ≡ old.windows = sym (ap (λ (v : TaskData). v.state.windows) c.self.view_is) ∙ ap windows_in c.in-Some.is in (
      c.requires.going,
      record { is = (λ j. record inside { window = window j; state = now }) ∙ ap (λ (v : TaskData). record v { state = now }) c.self.view_is },
      λ p k st. mark_step p k d i t old new pending now st c.requires.window c.requires.ready has holds here made,
    )

pub invariant_of-self-in-Err : goal.invariant_of-self-in-Err
invariant_of-self-in-Err c =
    let s = c.self.inside in
    let was : IsWindowing s.setup s.taken s.has_failed (Some c.in-Some.window) = rw c.in-Some.is at c.self.invariant.windowing in
    failed_so s (record s { window = Some c.fire_at.new.window; pending = c.fire_at.new.pending; has_failed = true }) c.self.invariant (going s c.args.self.now c.args.i c.self.invariant c.self.view_is c.requires.ready) refl c.fire_at.ensures.capacity refl
    (windowing_spoiled s.setup s.taken s.has_failed c.in-Some.window c.fire_at.new.window was (ap (λ (v : StateData). v.window) c.in-Err.ensures.same))
    (operator_still s c.in-Some.window c.fire_at.new.window c.in-Some.is (ap (λ (v : StateData). v.window) c.in-Err.ensures.same))

pub returns-in-Err : goal.returns-in-Err
returns-in-Err c =
    let s = c.self.inside in
    let d = c.args.self.now in
    let inside = task_view s in
    let new = c.fire_at.new.window in
    let same : Some new ≡ s.window = ap (λ (v : StateData). Some v) c.in-Err.ensures.same ∙ sym c.in-Some.is in (
      c.requires.going,
      record {
        windows = d.state.windows;
        spoiled = λ _. refl;
        going = ap (λ (v : TaskData). v.state.over) (sym c.self.view_is) ∙ going s d c.args.i c.self.invariant c.self.view_is c.requires.ready;
        is = (λ j. record inside { window = option_map (λ (w : StateData). w.window) (same j); state = record inside.state { pending = c.in-Err.ensures.kept j; windows = windows_in (same j) }; has_failed = true })
            ∙ ap (λ (v : TaskData). record v { has_failed = true }) c.self.view_is;
      },
      λ p k st. takes_mark_here p k d c.args.i c.args.t st c.requires.ready,
    )
