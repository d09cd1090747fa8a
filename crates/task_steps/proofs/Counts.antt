-- How many records stand in windows.
use Rattle.std.proofs.Common.{◌≡◌, ℕ, ◌+◌, ◌^◌, ◌≤◌, Bool, List, length, sym, ap, subst, ◌∙◌, arith}
use Rattle.std.specs.Prelude.{Some}
use Rattle.std.specs.FinMap.{get}
use Rattle.plain_data.specs.Record.{Record}
use Rattle.plan_model.specs.declared.spec.Pane.{Pane}
use Rattle.plan_model.specs.declared.spec.WindowSpec.{WindowSpec}
use Rattle.plan_model.specs.Aggregates.{Aggregated, merge}
use Rattle.plan_model.specs.Rows.{aggregate_at}
use Rattle.plan_model.proofs.Facts.{count_or, count_at as counted_at, count_merged}
use Rattle.window_state.specs.State.{StateData, HasRoomFor}
use Rattle.window_state.specs.Windows.{CanAggregate}
use Rattle.task_steps.specs.declared.setup.Setup.{Setup}
use Rattle.task_steps.specs.TaskData.{HasCounts, IsWindowing}

count_at : (w : WindowSpec) (rows : List Record) (q : Pane) (a : Aggregated) → aggregate_at w rows q ≡ Some a → a.count ≤ length rows
count_at w rows q a e =
    let same : count_or (aggregate_at w rows q) ≡ a.count = ap count_or e in
    omega (arith, same, counted_at w rows q)

-- each window can take the records of a batch that its task admits
pub room_for : (taken : ℕ) (old : StateData) (rows : List Record) → HasCounts (2 ^ 40 + taken) old.windows → taken + length rows ≤ 2 ^ 40 → HasRoomFor old.window rows old.windows
room_for taken old rows h few = λ q a b there here. (let x = h q a there in let y = count_at old.window rows q b here in omega arith)

pub counts_after : (taken n : ℕ) (old new : StateData) (rows : List Record) → HasCounts (2 ^ 40 + taken) old.windows → length rows ≤ n
    → ((q : Pane) → get new.windows q ≡ merge old.window.aggregates (get old.windows q) (aggregate_at old.window rows q)) → HasCounts (2 ^ 40 + (taken + n)) new.windows
counts_after taken n old new rows h few added = λ q a there.
    let k = count_merged old.window.aggregates (get old.windows q) (aggregate_at old.window rows q) a (2 ^ 40 + taken) (length rows) (h q) (count_at old.window rows q) (sym (added q) ∙ there) in
    omega arith

pub windowing_after : (s : Setup) (taken n : ℕ) (f : Bool) (old new : StateData) (rows : List Record) → IsWindowing s taken f (Some old) → new.window ≡ old.window → length rows ≤ n
    → ((q : Pane) → get new.windows q ≡ merge old.window.aggregates (get old.windows q) (aggregate_at old.window rows q)) → IsWindowing s (taken + n) f (Some new)
windowing_after s taken n f old new rows h same few added = (
  subst (CanAggregate s.columns) (sym same) h.0,
  ap (λ (w : WindowSpec). w.time) same ∙ h.1,
  h.2 ∙ sym (ap (λ (w : WindowSpec). w.having) same),
  λ fine. counts_after taken n old new rows (h.3 fine) few added,
)
