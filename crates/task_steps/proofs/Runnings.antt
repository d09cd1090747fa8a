-- The steps of a source that are no reads.
use Rattle.std.proofs.Common.{◌≡◌, [], ◌∷◌, ◌++◌, suc, ◌+◌, ◌<◌, true, sym, ap, subst, ◌∙◌}
use Rattle.plain_data.specs.Times.{lowest}
use Rattle.input_state.specs.Inputs.{least, risen}
use Rattle.plan_model.specs.PlanData.{PlanData}
use Rattle.dataflow_model.specs.declared.message.Message.TheVariants.{Barrier, End}
use Rattle.dataflow_model.specs.declared.ending.Ending.{Ending}
use Rattle.dataflow_model.specs.declared.ending.Ending.TheVariants.{AtEnd, AtCut, Asked}
use Rattle.dataflow_model.specs.Role.{is_source}
use Rattle.dataflow_model.specs.AbstractTask.{AbstractTask}
use Rattle.dataflow_model.specs.State.{State, kept_of}
use Rattle.dataflow_model.specs.Routes.{announce, to_all}
use Rattle.dataflow_model.specs.Steps.{Open, Save, Stop, Close, CanRun, IsAtLimit, MaySave, MayStop, MayClose, LocalStep}
use Rattle.dataflow_model.specs.Steps.LocalStep.{opens, saves, stops, closes}
use Rattle.task_steps.specs.TaskData.{TaskData, Stands}
use Rattle.task_steps.specs.Running.{IsOpenable, IsRunning, HasCome, StopsBy, ClosesBy, IsSavable, IsStoppable, IsClosable}

pub can_run : (p : PlanData) (k : AbstractTask) (d : TaskData) → Stands p k d → IsRunning d → CanRun k d.state
can_run p k d st r = record { source = sym st.role ∙ r.source; idle = r.idle; opened = r.opened; going = r.going }

pub open_step : (p : PlanData) (k : AbstractTask) (d : TaskData) (now : State) → Stands p k d → IsOpenable d
    → now ≡ record d.state { opened = true; pending = announce d.setup.outputs (risen lowest (least d.state.inputs.marks)) } → LocalStep p k d.state Open now
open_step p k d now st o made =
    subst (LocalStep p k d.state Open) ((λ j. record d.state { opened = true; pending = announce (sym st.outputs j) (risen lowest (least d.state.inputs.marks)) }) ∙ sym made)
    (opens (record { source = sym st.role ∙ o.source; idle = o.idle; shut = o.shut }))

at_limit : (p : PlanData) (k : AbstractTask) (d : TaskData) → Stands p k d → IsRunning d → HasCome d → IsAtLimit k d.state
at_limit p k d st r come = λ q l. (
    let here : q < d.setup.inputs = subst (λ n. q < n) (sym st.inputs) l in
    come q here ∙ sym (st.limits d.state.next q (ap is_source r.source) here))

may_close : (p : PlanData) (k : AbstractTask) (d : TaskData) (e : Ending) → Stands p k d → IsRunning d → d.state.next ≡ k.saves → ClosesBy e d → MayClose e k d.state
may_close p k d AtEnd st r next by = (next, at_limit p k d st r by)
may_close p k d AtCut st r next by = absurd by
may_close p k d Asked st r next by = (next, at_limit p k d st r by)

may_stop_now : (p : PlanData) (k : AbstractTask) (d : TaskData) (e : Ending) → Stands p k d → IsRunning d → d.state.next ≡ k.saves → StopsBy e d → MayStop e k d.state
may_stop_now p k d AtEnd st r next by = absurd by
may_stop_now p k d AtCut st r next by = (next, at_limit p k d st r by)
may_stop_now p k d Asked st r next by = next

pub close_step : (p : PlanData) (k : AbstractTask) (d : TaskData) (now : State) → Stands p k d → IsClosable d
    → now ≡ record d.state { over = true; pending = to_all d.setup.outputs End } → LocalStep p k d.state Close now
close_step p k d now st can made =
    let may = may_close p k d k.ending st can.running (can.next ∙ st.saves) (subst (λ e. ClosesBy e d) st.ending can.by) in
    subst (LocalStep p k d.state Close) ((λ j. record d.state { over = true; pending = to_all (sym st.outputs j) End }) ∙ sym made) (closes (can_run p k d st can.running) may)

-- a source's barrier is the leg's next one
barrier_alike : (p : PlanData) (k : AbstractTask) (d : TaskData) → Stands p k d → to_all d.setup.outputs (Barrier (d.setup.first + d.state.next)) ≡ to_all k.outputs (Barrier (k.first + d.state.next))
barrier_alike p k d st = λ j. to_all (st.outputs j) (Barrier (st.first j + d.state.next))

pub stop_step : (p : PlanData) (k : AbstractTask) (d : TaskData) (now : State) → Stands p k d → IsStoppable d
    → now ≡ record d.state { over = true; next = suc d.state.next; pending = to_all d.setup.outputs (Barrier (d.setup.first + d.state.next)) } → LocalStep p k d.state Stop now
stop_step p k d now st can made =
    let may = may_stop_now p k d k.ending st can.running (can.next ∙ st.saves) (subst (λ e. StopsBy e d) st.ending can.by) in
    subst (LocalStep p k d.state Stop) (sym (made ∙ (λ j. record d.state { over = true; next = suc d.state.next; pending = barrier_alike p k d st j }))) (stops (can_run p k d st can.running) may)

pub may_save : (p : PlanData) (k : AbstractTask) (d : TaskData) → Stands p k d → IsSavable d → MaySave k d.state
may_save p k d st can = (subst (λ n. d.state.next < n) st.saves can.next, at_limit p k d st can.running can.come)

pub save_step : (p : PlanData) (k : AbstractTask) (d : TaskData) (now : State) → Stands p k d → IsSavable d
    → now ≡ record d.state { next = suc d.state.next; kept = d.state.kept ++ kept_of d.state ∷ []; pending = to_all d.setup.outputs (Barrier (d.setup.first + d.state.next)) } → LocalStep p k d.state Save now
save_step p k d now st can made =
    subst (LocalStep p k d.state Save) (sym (made ∙ (λ j. record d.state { next = suc d.state.next; kept = d.state.kept ++ kept_of d.state ∷ []; pending = barrier_alike p k d st j })))
    (saves (can_run p k d st can.running) (may_save p k d st can))
