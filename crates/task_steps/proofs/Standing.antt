-- What a task of the code tells of the layout's task that it stands for.
use Rattle.std.proofs.Common.{◌≡◌, ℕ, ◌+◌, ◌<◌, ◌==◌, Bool, List, length, sym, ap, subst, ◌∙◌}
use Rattle.std.specs.Prelude.{Option, Some, None}
use Rattle.std.specs.List.{All, filter}
use Rattle.plain_data.specs.Record.{Record, at}
use Rattle.columns.specs.Table.{Table}
use Rattle.columns.specs.Parts.{with_rows}
use Rattle.plan_model.specs.PlanData.{PlanData}
use Rattle.plan_model.specs.declared.spec.WindowSpec.{WindowSpec}
use Rattle.plan_model.specs.declared.spec.Pane.{Pane}
use Rattle.plan_model.specs.Windows.{passes, IsTime}
use Rattle.plan_model.specs.Aggregates.{merge}
use Rattle.plan_model.specs.Rows.{aggregate_at}
use Rattle.window_state.specs.State.{StateData}
use Rattle.std.specs.FinMap.{get}
use Rattle.dataflow_model.specs.declared.message.Message.TheVariants.{Rows}
use Rattle.dataflow_model.specs.declared.role.Role.TheVariants.{Chain, Window}
use Rattle.dataflow_model.specs.Role.{is_source, takes_rows}
use Rattle.dataflow_model.specs.AbstractTask.{AbstractTask, Routing}
use Rattle.dataflow_model.specs.State.{State}
use Rattle.dataflow_model.specs.Routes.{spread, batch, part, route, next_cursor}
use Rattle.dataflow_model.specs.Steps.{Take, Takes, CanTake, LocalStep}
use Rattle.dataflow_model.specs.Steps.LocalStep.{chain_rows, window_rows}
use Rattle.task_steps.specs.declared.setup.Split.{Split}
use Rattle.key_dealing.specs.Dealing.{owner}
use Rattle.task_steps.specs.Sending.{sends}
use Rattle.task_steps.specs.TaskData.{TaskData, Stands, IsRouting, IsWindowOf}
use Rattle.task_steps.specs.Taking.{IsReady, AreAdmitted}
use Rattle.task_steps.proofs.Lists.{filter_alike}
use Rattle.task_steps.proofs.Sent.{spread_alike}

pub can_take : (p : PlanData) (k : AbstractTask) (d : TaskData) (i : ℕ) → Stands p k d → IsReady d i → CanTake k d.state i
can_take p k d i st r = record { taker = ap is_source (sym st.role) ∙ r.taker; idle = r.idle; input = subst (λ n. i < n) st.inputs r.input; free = r.free }

pub takes_rows_here : (p : PlanData) (k : AbstractTask) (d : TaskData) (i : ℕ) (t : Table) → Stands p k d → IsReady d i → AreAdmitted d t → Takes p k d.state i (Rows t)
takes_rows_here p k d i t st r a = record {
  can = can_take p k d i st r;
  admitted = (ap takes_rows (sym st.role) ∙ a.taker, a.width ∙ st.columns, subst (λ c. All (λ r. IsTime (at c r)) t.rows) st.time a.times, a.few);
}

-- what the layout's task routes is what the code sends
parted : (s : Option Split) (e : Routing) → IsRouting s e → (n key c w : ℕ) (rows : List Record) → spread n (λ j. batch w (part key e c rows j)) ≡ sends s n key c (record { width = w; rows = rows })
parted None e is n key c w rows = ap (λ e'. spread n (λ j. batch w (part key e' c rows j))) is
parted (Some s) e is n key c w rows =
    ap (λ e'. spread n (λ j. batch w (part key e' c rows j))) is.1
    ∙ spread_alike (λ j. batch w (filter (λ r. is.0 (at key r) == j) rows)) (λ j. batch w (filter (λ r. owner s.max s.par (at key r) == j) rows)) n
    (λ j. ap (batch w) (filter_alike (λ r. is.0 (at key r) == j) (λ r. owner s.max s.par (at key r) == j) rows (λ r. ap (λ o. o == j) (is.2 (at key r)))))

pub routed : (p : PlanData) (k : AbstractTask) (d : TaskData) (c : ℕ) (t : Table) → Stands p k d
    → route p.window.key k c t ≡ sends d.setup.split d.setup.outputs d.setup.key c (with_rows t (filter (passes d.setup.filters) t.rows))
routed p k d c t st =
    (λ i. spread (sym st.outputs i) (λ j. batch t.width (part (sym st.key i) k.routing c (filter_alike k.keeps (passes d.setup.filters) t.rows st.keeps i) j)))
    ∙ parted d.setup.split k.routing st.routing d.setup.outputs d.setup.key c t.width (filter (passes d.setup.filters) t.rows)

pub turned : (p : PlanData) (k : AbstractTask) (d : TaskData) (c : ℕ) (t : Table) → Stands p k d
    → next_cursor k.outputs c (filter k.keeps t.rows) ≡ next_cursor d.setup.outputs c (filter (passes d.setup.filters) t.rows)
turned p k d c t st = λ i. next_cursor (sym st.outputs i) c (filter_alike k.keeps (passes d.setup.filters) t.rows st.keeps i)

-- records at a chain of filters
pub chain_step : (p : PlanData) (k : AbstractTask) (d : TaskData) (i : ℕ) (t : Table) (new : State) → Stands p k d → d.setup.role ≡ Chain → IsReady d i → AreAdmitted d t
    → new ≡ record d.state {
      cursor = next_cursor d.setup.outputs d.state.cursor (filter (passes d.setup.filters) t.rows);
      taken = d.state.taken + length t.rows;
      pending = sends d.setup.split d.setup.outputs d.setup.key d.state.cursor (with_rows t (filter (passes d.setup.filters) t.rows));
    } → LocalStep p k d.state (Take i (Rows t)) new
chain_step p k d i t new st chain r a e =
    let s = d.state in
    let cursor = turned p k d s.cursor t st in
    let pending = routed p k d s.cursor t st in
    let same : record s { cursor = next_cursor k.outputs s.cursor (filter k.keeps t.rows); taken = s.taken + length t.rows; pending = route p.window.key k s.cursor t } ≡ new =
    (λ j. record s { cursor = cursor j; taken = s.taken + length t.rows; pending = pending j }) ∙ sym e in
    subst (LocalStep p k s (Take i (Rows t))) same (chain_rows (sym st.role ∙ chain) (takes_rows_here p k d i t st r a))

pub window_is : (p : PlanData) (w : Option WindowSpec) (v : WindowSpec) → IsWindowOf p w → w ≡ Some v → v ≡ p.window
window_is p None v h e = absurd cc
window_is p (Some u) v h e = let same : u ≡ v = cc in sym same ∙ h

-- records at a window
pub window_step : (p : PlanData) (k : AbstractTask) (d : TaskData) (i : ℕ) (t : Table) (old new : StateData) (now : State) → Stands p k d → d.setup.role ≡ Window → IsReady d i → AreAdmitted d t
    → d.window ≡ Some old.window → d.state.windows ≡ old.windows
    → ((q : Pane) → get new.windows q ≡ merge old.window.aggregates (get old.windows q) (aggregate_at old.window t.rows q))
    → now ≡ record d.state { taken = d.state.taken + length t.rows; windows = new.windows } → LocalStep p k d.state (Take i (Rows t)) now
window_step p k d i t old new now st role r a has holds added e =
    let same = window_is p d.window old.window st.window has in
    subst (LocalStep p k d.state (Take i (Rows t))) (sym e)
    (window_rows (sym st.role ∙ role) (takes_rows_here p k d i t st r a)
    (λ q. added q ∙ (λ j. merge (same j).aggregates (get (sym holds j) q) (aggregate_at (same j) t.rows q))))

-- whatever its state is, and whether it has failed
pub stands_still : (p : PlanData) (k : AbstractTask) (t : TaskData) (now : State) (failed : Bool) → Stands p k t → Stands p k (record t { state = now; has_failed = failed })
stands_still p k t now failed st = record {
  columns = st.columns;
  time = st.time;
  key = st.key;
  window = st.window;
  role = st.role;
  inputs = st.inputs;
  outputs = st.outputs;
  routing = st.routing;
  keeps = st.keeps;
  first = st.first;
  saves = st.saves;
  ending = st.ending;
  source = st.source;
  numbers = st.numbers;
  limits = st.limits;
}
