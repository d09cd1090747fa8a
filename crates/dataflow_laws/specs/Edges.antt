-- What the rings of a leg carry at every moment, whatever the order of its steps: watermarks and records in their
-- order.
use Rattle.std.specs.Prelude.{◌≡◌, ℕ, ◌<◌, ◌≤◌, ℤ, ◌≤ℤ◌, ◌<ℤ◌, List, [], ◌∷◌, slice_index_or, true, if◌then◌else◌}
use Rattle.std.specs.Int.{int_max}
use Rattle.std.specs.List.{All}
use Rattle.plain_data.specs.Record.{at}
use Rattle.plain_data.specs.Times.{lowest}
use Rattle.plan_model.specs.PlanData.{PlanData}
use Rattle.input_state.specs.Inputs.{least}
use Rattle.dataflow_model.specs.declared.role.Role.{Role}
use Rattle.dataflow_model.specs.declared.role.Role.TheVariants.{Source, Chain, Window, Sink}
use Rattle.dataflow_model.specs.declared.message.Message.{Message}
use Rattle.dataflow_model.specs.declared.message.Message.TheVariants.{Rows, Fired, Watermark, Barrier, End}
use Rattle.dataflow_model.specs.Message.{records_of}
use Rattle.dataflow_model.specs.AbstractLayout.{AbstractLayout, IsLayout}
use Rattle.dataflow_model.specs.State.{State}
use Rattle.dataflow_model.specs.OneLeg.{IsOneLeg}
use Rattle.dataflow_model.specs.Runs.{taken, given}
use Rattle.dataflow_model.specs.Cuts.{AreOrderlySources, IsMergedWatermark, cut_of}
use Rattle.dataflow_model.specs.Snapshots.{HaveWatermarks}
use Rattle.dataflow_model.specs.Start.{AreOpenings, IsStart}
use Rattle.dataflow_model.specs.History.{History, IsComplete}

-- a watermark after one more message
abbrev pub mark_after : Message → ℤ → ℤ
mark_after (Rows t) w = w
mark_after (Fired rows) w = w
mark_after (Watermark t) w = int_max w t
mark_after (Barrier n) w = w
mark_after End w = w

-- the greatest watermark of a log, which has its newest message first, or the least of all where it has none
abbrev pub mark_of : List Message → ℤ
mark_of [] = lowest
mark_of (m ∷ log) = mark_after m (mark_of log)

-- no record of a log comes after a watermark that has its time
abbrev pub IsInOrder : ℕ → List Message → Type 0
IsInOrder time [] = Unit {0}
IsInOrder time (m ∷ log) = All (λ r. mark_of log <ℤ at time r) (records_of m) × IsInOrder time log

-- the merged watermark of a task: the least of its inputs', of a source the least of its partitions'
abbrev pub task_watermark : State → ℤ
task_watermark s = least s.inputs.marks

-- what a task has told of it: a source tells nothing before it was opened
abbrev pub told_watermark : Role → State → ℤ
told_watermark Source s = if s.opened then task_watermark s else lowest
told_watermark Chain s = task_watermark s
told_watermark Window s = task_watermark s
told_watermark Sink s = task_watermark s

-- what was put on a ring or is pending for it, and what was taken from it, keep the sender's watermark for the
-- receiver's input
pub record KeepsWatermark (p : PlanData) (l : AbstractLayout) {start : ℕ → State} (h : History p l start) (s t : ℕ) : Type 0 where
  -- the sender has told its merged watermark
  pub told : mark_of (given (l.out_at s t) (h.steps s) (h.end s)) ≡ told_watermark (l.task s).role (h.end s)
  -- the receiver has for this input the greatest watermark that it took, and that is none which was not told
  pub heard : (d : ℤ) → slice_index_or (h.end t).inputs.marks (l.in_at s t) d ≡ mark_of (taken (l.in_at s t) (h.steps t))
  pub behind : mark_of (taken (l.in_at s t) (h.steps t)) ≤ℤ told_watermark (l.task s).role (h.end s)
  -- no record comes after a watermark that has its time: not on the ring, and not at the receiver
  pub sent_in_order : IsInOrder p.window.time (given (l.out_at s t) (h.steps s) (h.end s))
  pub taken_in_order : IsInOrder p.window.time (taken (l.in_at s t) (h.steps t))

-- so it is of each ring that leads to a task before the sink, be it forward, by turns or by key, at every moment of a
-- leg; and of each partition a source has the watermark of the entries that it has read
abbrev pub EdgesKeepWatermarks : Type 0
EdgesKeepWatermarks = (p : PlanData) (l : AbstractLayout) (start : ℕ → State) → IsLayout l → AreOrderlySources p l → IsOneLeg l start → AreOpenings p l start → (h : History p l start)
    → HaveWatermarks l (λ t. (h.end t).inputs.marks) (cut_of h.end) × ((s t : ℕ) → t < l.sink → l.ring s t ≡ true → KeepsWatermark p l h s t)

-- so at every moment a window task's watermark is at most that of the cut that was read, and once all tasks are done it
-- is that
abbrev pub WindowsHaveTheWatermark : Type 0
WindowsHaveTheWatermark = (p : PlanData) (l : AbstractLayout) (start : ℕ → State) (w v : ℤ) → IsLayout l → AreOrderlySources p l → IsOneLeg l start → IsStart p l start w
    → (h : History p l start) → IsMergedWatermark l (cut_of h.end) v → (u : ℕ) → l.before ≤ u → u < l.sink → (task_watermark (h.end u) ≤ℤ v) × (IsComplete h → task_watermark (h.end u) ≡ v)
