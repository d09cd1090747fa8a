-- Watermarks at a window.
use Rattle.std.proofs.Common.{◌≡◌, ℕ, ◌+◌, ◌^◌, Bool, true, false, not, List, ◌++◌, sym, ap, subst, ◌∙◌}
use Rattle.std.specs.Prelude.{ℤ, Option, Some, None, cond, option_to_list}
use Rattle.std.specs.FinMap.{get, retain_keys, get-retain_keys}
use Rattle.plan_model.specs.declared.spec.Pane.{Pane}
use Rattle.plan_model.specs.declared.spec.Row.{Row}
use Rattle.plan_model.specs.declared.spec.WindowSpec.{WindowSpec}
use Rattle.plan_model.specs.PlanData.{PlanData}
use Rattle.plan_model.specs.Aggregates.{Aggregated}
use Rattle.plan_model.specs.Rows.{is_due}
use Rattle.plan_model.proofs.Facts.{pane_cmp-IsAntisymmetric}
use Rattle.window_state.specs.State.{StateData}
use Rattle.dataflow_model.specs.declared.message.Message.{Message}
use Rattle.dataflow_model.specs.declared.message.Message.TheVariants.{Fired, Watermark}
use Rattle.dataflow_model.specs.declared.role.Role.TheVariants.{Chain, Window, Sink}
use Rattle.dataflow_model.specs.Role.{takes_fired}
use Rattle.dataflow_model.specs.AbstractTask.{AbstractTask}
use Rattle.dataflow_model.specs.State.{Windows, State}
use Rattle.dataflow_model.specs.Routes.{fired, announce}
use Rattle.dataflow_model.specs.Steps.{Take, Takes, Fires, with_mark, LocalStep}
use Rattle.input_state.specs.Inputs.{rise}
use Rattle.dataflow_model.specs.Steps.LocalStep.{chain_mark, window_mark, sink_mark, sink_rows}
use Rattle.task_steps.specs.declared.setup.Setup.{Setup}
use Rattle.task_steps.specs.TaskData.{TaskData, Stands, HasCounts, IsWindowing}
use Rattle.task_steps.specs.Taking.{IsReady}
use Rattle.task_steps.specs.Firing.{FiresBy, FiresHere, kept_due}
use Rattle.task_steps.proofs.Standing.{can_take, window_is}

there_before : (b : Bool) (o : Option Aggregated) (a : Aggregated) → cond b o None ≡ Some a → o ≡ Some a
there_before true o a e = e
there_before false o a e = absurd cc

counts_kept : (n : ℕ) (windows : Windows) (w : WindowSpec) (t : ℤ) → HasCounts n windows → HasCounts n (retain_keys windows (λ q. not (is_due w t q.start)))
counts_kept n windows w t h = λ q a there.
    let before = there_before (not (is_due w t q.start)) (get windows q) a (sym (get-retain_keys windows (λ x. not (is_due w t x.start)) q (λ x e. ap (λ (r : Pane). not (is_due w t r.start)) (sym (pane_cmp-IsAntisymmetric q x e)))) ∙ there) in
    h q a before

by_fires : (s : Setup) (taken : ℕ) (f : Bool) (low : Option ℤ) (old new : StateData) (rows : List Row) → FiresBy low old rows new → IsWindowing s taken f (Some old) → IsWindowing s taken f (Some new)
by_fires s taken f None old new rows h was = subst (λ (v : StateData). IsWindowing s taken f (Some v)) (sym h.1) was
by_fires s taken f (Some t) old new rows h was =
    subst (λ (v : StateData). IsWindowing s taken f (Some v)) (sym h.1) (was.0, was.1, was.2, λ fine. counts_kept (2 ^ 40 + taken) old.windows old.window t (was.3 fine))

pub windowing_fired : (s : Setup) (taken : ℕ) (f : Bool) (low : Option ℤ) (old new : StateData) (n : ℕ) (pending : List (ℕ × Message)) → FiresHere low old new n pending → IsWindowing s taken f (Some old) → IsWindowing s taken f (Some new)
windowing_fired s taken f low old new n pending h was = by_fires s taken f low old new h.rows h.fires was

stays_by : (low : Option ℤ) (old new : StateData) (rows : List Row) → FiresBy low old rows new → new.window ≡ old.window
stays_by None old new rows h = ap (λ (v : StateData). v.window) h.1
stays_by (Some t) old new rows h = ap (λ (v : StateData). v.window) h.1

pub window_stays : (low : Option ℤ) (old new : StateData) (n : ℕ) (pending : List (ℕ × Message)) → FiresHere low old new n pending → new.window ≡ old.window
window_stays low old new n pending h = stays_by low old new h.rows h.fires

pub takes_mark_here : (p : PlanData) (k : AbstractTask) (d : TaskData) (i : ℕ) (t : ℤ) → Stands p k d → IsReady d i → Takes p k d.state i (Watermark t)
takes_mark_here p k d i t st r = record { can = can_take p k d i st r; admitted = tt }

fires_of : (p : PlanData) (windows : Windows) (low : Option ℤ) (old new : StateData) (rows : List Row) → old.window ≡ p.window → windows ≡ old.windows → FiresBy low old rows new → Fires p windows low rows new.windows
fires_of p windows None old new rows same holds h = (h.0, ap (λ (v : StateData). v.windows) h.1 ∙ sym holds)
fires_of p windows (Some t) old new rows same holds h = (
  λ q. h.0 q ∙ (λ j. option_to_list (kept_due (same j) (sym holds j) t q)),
  ap (λ (v : StateData). v.windows) h.1 ∙ (λ j. retain_keys (sym holds j) (λ q. not (is_due (same j) t q.start))),
)

-- a watermark at a window
pub mark_step : (p : PlanData) (k : AbstractTask) (d : TaskData) (i : ℕ) (t : ℤ) (old new : StateData) (pending : List (ℕ × Message)) (now : State) → Stands p k d → d.setup.role ≡ Window → IsReady d i
    → d.window ≡ Some old.window → d.state.windows ≡ old.windows → FiresHere (rise d.state.inputs.marks i t) old new d.setup.outputs pending
    → now ≡ record d.state { inputs = with_mark d.state i t; windows = new.windows; pending = pending } → LocalStep p k d.state (Take i (Watermark t)) now
mark_step p k d i t old new pending now st role r has holds h e =
    let same = window_is p d.window old.window st.window has in
    let is : fired h.rows ++ announce k.outputs (rise d.state.inputs.marks i t) ≡ pending = ap (λ n. fired h.rows ++ announce n (rise d.state.inputs.marks i t)) (sym st.outputs) ∙ sym h.is in
    subst (LocalStep p k d.state (Take i (Watermark t))) ((λ j. record d.state { inputs = with_mark d.state i t; windows = new.windows; pending = is j }) ∙ sym e)
    (window_mark h.rows (sym st.role ∙ role) (takes_mark_here p k d i t st r) (fires_of p d.state.windows (rise d.state.inputs.marks i t) old new h.rows same holds h.fires))

-- a watermark at a chain, which passes the new least on, and at the sink
pub chain_mark_step : (p : PlanData) (k : AbstractTask) (d : TaskData) (i : ℕ) (t : ℤ) (now : State) → Stands p k d → d.setup.role ≡ Chain → IsReady d i
    → now ≡ record d.state { inputs = with_mark d.state i t; pending = announce d.setup.outputs (rise d.state.inputs.marks i t) } → LocalStep p k d.state (Take i (Watermark t)) now
chain_mark_step p k d i t now st role r made =
    subst (LocalStep p k d.state (Take i (Watermark t))) ((λ j. record d.state { inputs = with_mark d.state i t; pending = announce (sym st.outputs j) (rise d.state.inputs.marks i t) }) ∙ sym made)
    (chain_mark (sym st.role ∙ role) (takes_mark_here p k d i t st r))

pub sink_mark_step : (p : PlanData) (k : AbstractTask) (d : TaskData) (i : ℕ) (t : ℤ) (now : State) → Stands p k d → d.setup.role ≡ Sink → IsReady d i
    → now ≡ record d.state { inputs = with_mark d.state i t } → LocalStep p k d.state (Take i (Watermark t)) now
sink_mark_step p k d i t now st role r made = subst (LocalStep p k d.state (Take i (Watermark t))) (sym made) (sink_mark (sym st.role ∙ role) (takes_mark_here p k d i t st r))

-- fired rows at the sink
pub takes_fired_here : (p : PlanData) (k : AbstractTask) (d : TaskData) (i : ℕ) (rows : List Row) → Stands p k d → d.setup.role ≡ Sink → IsReady d i → Takes p k d.state i (Fired rows)
takes_fired_here p k d i rows st role r = record { can = can_take p k d i st r; admitted = ap takes_fired (sym st.role ∙ role) }

pub sink_rows_step : (p : PlanData) (k : AbstractTask) (d : TaskData) (i : ℕ) (rows : List Row) (now : State) → Stands p k d → d.setup.role ≡ Sink → IsReady d i
    → now ≡ record d.state { rows = d.state.rows ++ rows } → LocalStep p k d.state (Take i (Fired rows)) now
sink_rows_step p k d i rows now st role r made = subst (LocalStep p k d.state (Take i (Fired rows))) (sym made) (sink_rows (sym st.role ∙ role) (takes_fired_here p k d i rows st role r))
