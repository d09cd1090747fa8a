use Rattle.std.proofs.Common.{option_map, refl, sym, subst, ◌∙◌}
use Rattle.std.proofs.lemmas.List.Elements.{All-push}
use Rattle.std.specs.List.{All}
use Rattle.window_state.specs.State.{StateData}
use Rattle.task_steps.specs.declared.kept.Kept.{Kept}
use Rattle.task_steps.specs.Keeping.{IsKept}
use Rattle.task_steps.specs.TaskData.{windows_in}
use Rattle.task_steps.proofs.Keeping.{kept_now, keeps_so}
use Rattle.task_steps.proofs.task.Task.keep.Goals as goal

pub invariant_of-self : goal.invariant_of-self
invariant_of-self c =
    let t = c.self.inside in
    keeps_so t _ c.self.invariant refl (subst (All (IsKept t.setup (option_map (λ (w : StateData). w.window) t.window))) (sym c.in_err-push.ensures.items) c.self.invariant.kept)

pub invariant_of-self-2 : goal.invariant_of-self-2
invariant_of-self-2 c =
    let t = c.self.inside in
    let k = c.in_ok-kept.kept in
    let rows = c.len-rows.result in
    let Sound : Kept → Type 0 = IsKept t.setup (option_map (λ (w : StateData). w.window) t.window) in
    let kept = c.in_ok-kept.ensures in
    let sound : Sound k =
    kept_now t k rows c.self.invariant (kept.is ∙ (λ j. record { offsets = c.deref.ensures.value j; marks = c.marks.ensures j; windows = windows_in t.window; rows = rows })) kept.says kept.sound in
    keeps_so t _ c.self.invariant refl (subst (All Sound) (sym c.in_ok-push.ensures.items) (All-push Sound t.kept.items k c.self.invariant.kept sound))
