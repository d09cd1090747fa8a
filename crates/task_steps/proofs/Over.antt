-- A task that makes a step is not over.
use Rattle.std.proofs.Common.{◌≡◌, ℕ, zero, suc, Bool, true, false, List, [], ◌∷◌, refl, sym, ap, subst, ◌∙◌}
use Rattle.input_state.specs.declared.inputs.Shut.{Shut}
use Rattle.input_state.specs.declared.inputs.Shut.TheVariants.{Free, Held, Ended}
use Rattle.input_state.specs.Inputs.{is_free, shut_at, all_shut}
use Rattle.std.specs.Prelude.{Option, Some, None}
use Rattle.plan_model.specs.declared.spec.WindowSpec.{WindowSpec}
use Rattle.window_state.specs.State.{StateData}
use Rattle.window_state.specs.Windows.{CanAggregate}
use Rattle.task_steps.specs.declared.setup.Setup.{Setup}
use Rattle.task_steps.specs.declared.task.Task.TheInside.{Inside}
use Rattle.task_steps.specs.TaskData.{TaskData, task_view, IsWindowing, IsTask}
use Rattle.task_steps.specs.Taking.{IsReady}

none_free : (shut : List Shut) (i : ℕ) → all_shut shut ≡ true → is_free (shut_at shut i) ≡ true → ⊥
none_free [] i all free = cc
none_free (Free ∷ ss) i all free = cc
none_free (Held ∷ ss) zero all free = cc
none_free (Held ∷ ss) (suc i) all free = none_free ss i all free
none_free (Ended ∷ ss) zero all free = cc
none_free (Ended ∷ ss) (suc i) all free = none_free ss i all free

going_by : (over : Bool) → (over ≡ true → ⊥) → over ≡ false
going_by true h = absurd (h refl)
going_by false h = refl

pub going : (t : Inside) (d : TaskData) (i : ℕ) → IsTask t → task_view t ≡ d → IsReady d i → t.over ≡ false
going t d i inv is r =
    let here : IsReady (task_view t) i = subst (λ (v : TaskData). IsReady v i) (sym is) r in
    going_by t.over (λ over. none_free t.inputs.shut i (inv.ended over here.taker) here.free)

-- what stands in the windows of a task that has failed is not known
pub windowing_failed : (s : Setup) (taken : ℕ) (f : Bool) (o : Option StateData) → IsWindowing s taken f o → IsWindowing s taken true o
windowing_failed s taken f None h = h
windowing_failed s taken f (Some w) h = (h.0, h.1, h.2, λ fine. (absurd cc))

pub windowing_spoiled : (s : Setup) (taken : ℕ) (f : Bool) (old new : StateData) → IsWindowing s taken f (Some old) → new.window ≡ old.window → IsWindowing s taken true (Some new)
windowing_spoiled s taken f old new h same = (
  subst (CanAggregate s.columns) (sym same) h.0,
  ap (λ (w : WindowSpec). w.time) same ∙ h.1,
  h.2 ∙ sym (ap (λ (w : WindowSpec). w.having) same),
  λ fine. (absurd cc),
)
