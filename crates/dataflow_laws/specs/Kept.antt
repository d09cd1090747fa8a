-- What tasks have kept of a leg that goes on, in the words of an input that was read.
use Rattle.std.specs.Prelude.{◌≡◌, ◌==◌, ℕ, ◌+◌, ◌<◌, ◌≤◌, Bool, true, false, List, [], ◌∷◌, take, length, slice_index_or, if◌then◌else◌}
use Rattle.plan_model.specs.PlanData.{PlanData, IsPlan}
use Rattle.plan_model.specs.declared.spec.Row.{Row}
use Rattle.plan_model.specs.Rows.{AreRowsOf}
use Rattle.stream_model.specs.InputData.{InputData, IsInput, BelongsTo}
use Rattle.stream_model.specs.Watermarks.{IsOrderly, IsCut}
use Rattle.input_state.specs.Inputs.{inputs_from}
use Rattle.dataflow_model.specs.declared.role.Role.TheVariants.{Source}
use Rattle.dataflow_model.specs.declared.message.Message.{Message}
use Rattle.dataflow_model.specs.declared.message.Message.TheVariants.{Rows, Fired, Watermark, Barrier, End}
use Rattle.dataflow_model.specs.Leg.{Leg, Until}
use Rattle.dataflow_model.specs.AbstractTask.{AbstractTask}
use Rattle.dataflow_model.specs.AbstractLayout.{AbstractLayout, IsLayout, Deals, partition_read}
use Rattle.dataflow_model.specs.State.{State, kept_at}
use Rattle.dataflow_model.specs.Steps.{barriers}
use Rattle.dataflow_model.specs.OneLeg.{IsOneLeg}
use Rattle.dataflow_model.specs.Cuts.{save_cut}
use Rattle.dataflow_model.specs.Start.{AreOpenings, IsLegStart}
use Rattle.dataflow_model.specs.Runs.{sent}
use Rattle.dataflow_model.specs.History.{History}
use Rattle.layout_rules.specs.declared.stage.Stage.{Stage}
use Rattle.layout_rules.specs.Rules.{IsCompiled}
use Rattle.layout_rules.specs.Scale.{ScaleData, IsScale}
use Rattle.input_flow.specs.InputEntries.{input_of, counts_at}
use Rattle.dataflow_laws.specs.Legs.{HaveMarks}
use Rattle.dataflow_laws.specs.Inputs.{due_between, HaveCut}
use Rattle.dataflow_laws.specs.Compiled.{layout_to}

-- a task as it stood when it aligned on barrier m, counted from 0, as far as a savepoint has it
abbrev pub kept_state : ℕ → State → State
kept_state m s = record s { offsets = (kept_at m s).offsets; inputs = inputs_from (kept_at m s).marks s.inputs.shut; windows = (kept_at m s).windows }

-- the rows that the sink had then
abbrev pub rows_kept : ℕ → State → List Row
rows_kept m s = take (kept_at m s).rows s.rows

-- savepoint m of a leg is at a cut of the input
abbrev pub SavesAt : PlanData → InputData → AbstractLayout → ℕ → List (List ℕ) → Type 0
SavesAt p i l m cut = (t k : ℕ) → t < l.before → (l.task t).role ≡ Source → k < (l.task t).inputs → save_cut l m t k ≡ counts_at p cut (partition_read (input_of p i) l t k)

-- tasks have kept what a savepoint at a cut holds, and the sink the rows that became due from another cut to there,
-- each once
pub record HaveKept (p : PlanData) (i : InputData) (l : AbstractLayout) (b cut : List (List ℕ)) (m : ℕ) (states : ℕ → State) : Type 0 where
  pub rows : AreRowsOf (due_between p i.sources b cut) (rows_kept m (states l.sink))
  pub snapshot : HaveCut p i l (λ t. kept_state m (states t)) cut
  pub marks : HaveMarks (input_of p i) l (λ t. kept_state m (states t)) (counts_at p cut)

-- every task has aligned on barrier m, counted from 0
abbrev pub HaveAligned : AbstractLayout → ℕ → (ℕ → State) → Type 0
HaveAligned l m states = (t : ℕ) → t ≤ l.sink → m < (states t).next

abbrev pub is_barrier : ℕ → Message → Bool
is_barrier n (Rows t) = false
is_barrier n (Fired rows) = false
is_barrier n (Watermark t) = false
is_barrier n (Barrier m) = m == n
is_barrier n End = false

-- a barrier with this number is among the messages
abbrev pub has_barrier : ℕ → List Message → Bool
has_barrier n [] = false
has_barrier n (m ∷ log) = if is_barrier n m then true else has_barrier n log

-- a history has come past barrier m, counted from 0: every task has aligned on it, and has put it on each of its
-- outputs
pub record IsCompleteTo {p : PlanData} {l : AbstractLayout} {start : ℕ → State} (m : ℕ) (h : History p l start) : Type 0 where
  pub aligned : HaveAligned l m h.end
  pub put : (t j : ℕ) → t ≤ l.sink → j < (l.task t).outputs → has_barrier ((l.task t).first + m) (sent j (h.steps t)) ≡ true

-- it has where every task has aligned on it
abbrev pub AlignedIsComplete : Type 0
AlignedIsComplete = (p : PlanData) (l : AbstractLayout) (start : ℕ → State) (m : ℕ) → IsLayout l → IsLegStart p l start → (h : History p l start) → HaveAligned l m h.end → IsCompleteTo m h

-- once every task has aligned on the barrier of savepoint m, at whatever moment, they have kept just that
abbrev pub SavepointDelivers : Type 0
SavepointDelivers = (p : PlanData) (i : InputData) (b cut : List (List ℕ)) (leg : Leg) (l : AbstractLayout) (start : ℕ → State) (m : ℕ) → IsInput i → IsOrderly i.time i.sources → BelongsTo p i → IsCut i.sources b → IsCut i.sources cut
    → IsLayout l → Deals (input_of p i) leg l → IsOneLeg l start → AreOpenings p l start → HaveCut p i l start b → (h : History p l start)
    → m < (l.task l.sink).saves → SavesAt p i l m cut → HaveAligned l m h.end → HaveKept p i l b cut m h.end

-- so it is on the compiled layout of a plan, of a leg with savepoints at these cuts
abbrev pub CompiledSavepointDelivers : Type 0
CompiledSavepointDelivers = (p : PlanData) (c : ScaleData) (i : InputData) (n : ℕ) (b : List (List ℕ)) (saves : List (List (List ℕ))) (until : Until) (stages : List Stage) (start : ℕ → State) (m : ℕ)
    → IsPlan p → IsScale p c → IsCompiled p c stages → IsInput i → IsOrderly i.time i.sources → BelongsTo p i → IsCut i.sources b → m < length saves → IsCut i.sources (slice_index_or saves m [])
    → let l = layout_to p i n saves until stages in IsLegStart p l start → HaveCut p i l start b → (h : History p l start) → HaveAligned l m h.end → HaveKept p i l b (slice_index_or saves m []) m h.end

-- a task has passed no more barriers than the leg has; it has kept itself at each of those on the way that it has
-- passed, and at no other; and while it goes on it has passed none but those
pub record IsCounted (k : AbstractTask) (s : State) : Type 0 where
  pub few : length s.kept ≤ k.saves
  pub passed : s.next ≤ barriers k
  pub all : (m : ℕ) → m < s.next → m < k.saves → m < length s.kept
  pub going : s.over ≡ false → length s.kept ≡ s.next

-- so it is at every moment of a leg
abbrev pub KeptIsCounted : Type 0
KeptIsCounted = (p : PlanData) (l : AbstractLayout) (start : ℕ → State) → IsLayout l → IsLegStart p l start → (h : History p l start) (t : ℕ) → t ≤ l.sink → IsCounted (l.task t) (h.end t)
