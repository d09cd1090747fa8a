-- The local steps of a task: what each needs, and what it does.
use Rattle.std.specs.Prelude.{◌≡◌, ℕ, suc, ℤ, ◌+◌, ◌<◌, ◌≤◌, ◌==◌, ◌&&◌, not, List, [], ◌∷◌, ◌++◌, length, filter, slice_index, slice_set, Bool, true, false, Option, Some, None, option_and_then, if◌then◌else◌}
use Rattle.std.specs.List.{All}
use Rattle.std.specs.FinMap.{get, retain_keys}
use Rattle.plain_data.specs.Record.{at}
use Rattle.plan_model.specs.declared.spec.Pane.{Pane}
use Rattle.plan_model.specs.declared.spec.Row.{Row}
use Rattle.plan_model.specs.PlanData.{PlanData}
use Rattle.plan_model.specs.Windows.{IsTime}
use Rattle.plan_model.specs.Aggregates.{merge}
use Rattle.plan_model.specs.Rows.{aggregate_at, kept_row, is_due, AreRowsOf}
use Rattle.plan_model.specs.declared.limits.TheConstants.{MOST_RECORDS}
use Rattle.columns.specs.Table.{Table}
use Rattle.input_state.specs.declared.inputs.Shut.TheVariants.{Held, Ended}
use Rattle.input_state.specs.declared.inputs.Shut.{Shut}
use Rattle.input_state.specs.declared.inputs.Aligned.TheVariants as aligned
use Rattle.plain_data.specs.Times.{lowest}
use Rattle.input_state.specs.Inputs.{InputsData, inputs_from, least, raised, risen, rise, is_free, shut_at, alignment, released}
use Rattle.dataflow_model.specs.Message.{Message, Rows, Fired, Watermark, Barrier, End, records_of}
use Rattle.dataflow_model.specs.declared.role.Role.TheVariants.{Source, Chain, Window, Sink}
use Rattle.dataflow_model.specs.Role.{is_source, takes_rows, takes_fired}
use Rattle.dataflow_model.specs.declared.ending.Ending.{Ending}
use Rattle.dataflow_model.specs.declared.ending.Ending.TheVariants.{AtEnd, AtCut, Asked}
use Rattle.dataflow_model.specs.Ending.{may_stop}
use Rattle.dataflow_model.specs.AbstractTask.{AbstractTask}
use Rattle.dataflow_model.specs.State.{Windows, State, kept_of}
use Rattle.dataflow_model.specs.Routes.{route, route_of, next_cursor, announce, to_all, fired}

pub data Event : Type 0 where
  Open : Event
  Read : (partition : ℕ) → Event
  Save : Event
  Stop : Event
  Close : Event
  Take : (input : ℕ) → (message : Message) → Event
  Put : (output : ℕ) → (message : Message) → Event

-- how many barriers a leg has
abbrev pub barriers : AbstractTask → ℕ
barriers k = k.saves + (if may_stop k.ending then 1 else 0)

-- after the barrier of a stop a task is over
abbrev pub is_last : AbstractTask → ℕ → Bool
is_last k n = may_stop k.ending && (n == k.saves)

-- which messages the task's place and the leg admit: rows of the plan's width with times in range, at most 2^40 of them
-- in a leg, no row at the sink, fired rows there alone, and the next barrier
abbrev pub Admits : PlanData → AbstractTask → State → Message → Type 0
Admits p k s (Rows t) = (takes_rows k.role ≡ true) × (t.width ≡ p.columns) × All (λ r. IsTime (at p.window.time r)) t.rows × (s.taken + length t.rows ≤ MOST_RECORDS)
Admits p k s (Fired rows) = takes_fired k.role ≡ true
Admits p k s (Watermark t) = Unit {0}
Admits p k s (Barrier n) = (n ≡ k.first + s.next) × (s.next < barriers k)
Admits p k s End = Unit {0}

-- what Take needs of the task
pub record CanTake (k : AbstractTask) (s : State) (i : ℕ) : Type 0 where
  pub taker : is_source k.role ≡ false
  pub idle : s.pending ≡ []
  pub input : i < k.inputs
  pub free : is_free (shut_at s.inputs.shut i) ≡ true

pub record Takes (p : PlanData) (k : AbstractTask) (s : State) (i : ℕ) (m : Message) : Type 0 where
  pub can : CanTake k s i
  pub admitted : Admits p k s m

-- what the steps of a source need: it is open, not over, and nothing is pending
pub record CanRun (k : AbstractTask) (s : State) : Type 0 where
  pub source : k.role ≡ Source
  pub idle : s.pending ≡ []
  pub opened : s.opened ≡ true
  pub going : s.over ≡ false

pub record CanOpen (k : AbstractTask) (s : State) : Type 0 where
  pub source : k.role ≡ Source
  pub idle : s.pending ≡ []
  pub shut : s.opened ≡ false

pub record CanRead (k : AbstractTask) (s : State) (q : ℕ) : Type 0 where
  pub can : CanRun k s
  pub partition : q < k.inputs
  pub rest : slice_index s.offsets q < k.limit s.next q

-- the partition at place q has number n in its source, and can be read
pub record IsOwn (k : AbstractTask) (s : State) (n q : ℕ) : Type 0 where
  pub number : k.partition q ≡ n
  pub can : CanRead k s q

abbrev pub MayRead : AbstractTask → State → ℕ → Type 0
MayRead k s n = (q : ℕ) × IsOwn k s n q

-- every partition has come to its limit, where the next barrier or the end is due
abbrev pub IsAtLimit : AbstractTask → State → Type 0
IsAtLimit k s = (q : ℕ) → q < k.inputs → slice_index s.offsets q ≡ k.limit s.next q

-- a savepoint is due while the leg goes on
abbrev pub MaySave : AbstractTask → State → Type 0
MaySave k s = (s.next < k.saves) × IsAtLimit k s

abbrev pub MayStop : Ending → AbstractTask → State → Type 0
MayStop AtEnd k s = ⊥
MayStop AtCut k s = (s.next ≡ k.saves) × IsAtLimit k s
MayStop Asked k s = s.next ≡ k.saves

abbrev pub MayClose : Ending → AbstractTask → State → Type 0
MayClose AtEnd k s = (s.next ≡ k.saves) × IsAtLimit k s
MayClose AtCut k s = ⊥
MayClose Asked k s = (s.next ≡ k.saves) × IsAtLimit k s

-- the row of each place whose window fires by a watermark, if the having conditions keep it
abbrev pub rows_due : PlanData → Windows → ℤ → Pane → Option Row
rows_due p windows t q = if is_due p.window t q.start then option_and_then (kept_row p.window q) (get windows q) else None

-- what fires where the least watermark rose, and what is left
abbrev pub Fires : PlanData → Windows → Option ℤ → List Row → Windows → Type 0
Fires p windows None rows left = (rows ≡ []) × (left ≡ windows)
Fires p windows (Some t) rows left = AreRowsOf (rows_due p windows t) rows × (left ≡ retain_keys windows (λ q. not (is_due p.window t q.start)))

-- input i with one more watermark
abbrev pub with_mark : State → ℕ → ℤ → InputsData
with_mark s i t = inputs_from (raised s.inputs.marks i t) s.inputs.shut

-- the state after the next barrier, with the inputs shut so: by the last one of a leg that stops the task is over, else
-- it keeps itself and lets its inputs go
abbrev pub past_barrier : AbstractTask → State → List Shut → State
past_barrier k s shut = record s {
  inputs = inputs_from s.inputs.marks (if is_last k s.next then shut else released shut);
  over = is_last k s.next;
  next = suc s.next;
  kept = if is_last k s.next then s.kept else (s.kept ++ kept_of s ∷ []);
  pending = to_all k.outputs (Barrier (k.first + s.next));
}

-- one local step of a task, by cases
pub data LocalStep (p : PlanData) (k : AbstractTask) : State → Event → State → Type 0 where
  put : {s : State} {j : ℕ} {m : Message} {rest : List (ℕ × Message)} → s.pending ≡ (j, m) ∷ rest → LocalStep p k s (Put j m) (record s { pending = rest })
  opens : {s : State} → CanOpen k s → LocalStep p k s Open (record s { opened = true; pending = announce k.outputs (risen lowest (least s.inputs.marks)) })
  -- a partition is named by its number, what the task keeps of it stands at its place
  reads : {s : State} {n q : ℕ} → IsOwn k s n q → LocalStep p k s (Read n) (record s {
    offsets = slice_set s.offsets q (suc (slice_index s.offsets q));
    inputs = with_mark s q (k.brings q (slice_index s.offsets q));
    cursor = next_cursor k.outputs s.cursor (filter k.keeps (records_of (k.entry q (slice_index s.offsets q))));
    pending = route_of p.window.key k s.cursor (k.entry q (slice_index s.offsets q)) ++ announce k.outputs (rise s.inputs.marks q (k.brings q (slice_index s.offsets q)));
  })
  saves : {s : State} → CanRun k s → MaySave k s → LocalStep p k s Save (record s { next = suc s.next; kept = s.kept ++ kept_of s ∷ []; pending = to_all k.outputs (Barrier (k.first + s.next)) })
  stops : {s : State} → CanRun k s → MayStop k.ending k s → LocalStep p k s Stop (record s { over = true; next = suc s.next; pending = to_all k.outputs (Barrier (k.first + s.next)) })
  closes : {s : State} → CanRun k s → MayClose k.ending k s → LocalStep p k s Close (record s { over = true; pending = to_all k.outputs End })
  chain_rows : {s : State} {i : ℕ} {t : Table} → k.role ≡ Chain → Takes p k s i (Rows t) → LocalStep p k s (Take i (Rows t)) (record s {
    cursor = next_cursor k.outputs s.cursor (filter k.keeps t.rows);
    taken = s.taken + length t.rows;
    pending = route p.window.key k s.cursor t;
  })
  chain_mark : {s : State} {i : ℕ} {t : ℤ} → k.role ≡ Chain → Takes p k s i (Watermark t) → LocalStep p k s (Take i (Watermark t)) (record s { inputs = with_mark s i t; pending = announce k.outputs (rise s.inputs.marks i t) })
  window_rows : {s : State} {i : ℕ} {t : Table} {windows : Windows} → k.role ≡ Window → Takes p k s i (Rows t)
      → ((q : Pane) → get windows q ≡ merge p.window.aggregates (get s.windows q) (aggregate_at p.window t.rows q))
      → LocalStep p k s (Take i (Rows t)) (record s { taken = s.taken + length t.rows; windows = windows })
  window_mark : {s : State} {i : ℕ} {t : ℤ} {left : Windows} (rows : List Row) → k.role ≡ Window → Takes p k s i (Watermark t) → Fires p s.windows (rise s.inputs.marks i t) rows left
      → LocalStep p k s (Take i (Watermark t)) (record s { inputs = with_mark s i t; windows = left; pending = fired rows ++ announce k.outputs (rise s.inputs.marks i t) })
  sink_rows : {s : State} {i : ℕ} {rows : List Row} → k.role ≡ Sink → Takes p k s i (Fired rows) → LocalStep p k s (Take i (Fired rows)) (record s { rows = s.rows ++ rows })
  sink_mark : {s : State} {i : ℕ} {t : ℤ} → k.role ≡ Sink → Takes p k s i (Watermark t) → LocalStep p k s (Take i (Watermark t)) (record s { inputs = with_mark s i t })
  -- a barrier comes, and other inputs wait for theirs
  holds : {s : State} {i n : ℕ} → Takes p k s i (Barrier n) → alignment (slice_set s.inputs.shut i Held) ≡ aligned.Waiting
      → LocalStep p k s (Take i (Barrier n)) (record s { inputs = inputs_from s.inputs.marks (slice_set s.inputs.shut i Held) })
  -- it comes last
  aligns : {s : State} {i n : ℕ} → Takes p k s i (Barrier n) → alignment (slice_set s.inputs.shut i Held) ≡ aligned.Barrier
      → LocalStep p k s (Take i (Barrier n)) (past_barrier k s (slice_set s.inputs.shut i Held))
  -- an input ends, and others go on
  ends : {s : State} {i : ℕ} → Takes p k s i End → alignment (slice_set s.inputs.shut i Ended) ≡ aligned.Waiting
      → LocalStep p k s (Take i End) (record s { inputs = inputs_from s.inputs.marks (slice_set s.inputs.shut i Ended) })
  -- all have ended
  ends_all : {s : State} {i : ℕ} → Takes p k s i End → alignment (slice_set s.inputs.shut i Ended) ≡ aligned.AllEnded
      → LocalStep p k s (Take i End) (record s { inputs = inputs_from s.inputs.marks (slice_set s.inputs.shut i Ended); over = true; pending = to_all k.outputs End })
  -- the others have the barrier
  ends_aligned : {s : State} {i : ℕ} → Takes p k s i End → alignment (slice_set s.inputs.shut i Ended) ≡ aligned.Barrier
      → LocalStep p k s (Take i End) (past_barrier k s (slice_set s.inputs.shut i Ended))

-- a task is done where it is over and nothing is pending
abbrev pub IsDone : State → Type 0
IsDone s = (s.over ≡ true) × (s.pending ≡ [])
