-- What a source reads.
use Rattle.std.specs.Prelude.{◌≡◌, ℕ, suc, ◌<◌, ◌≤◌, ◌==◌, List, [], length, slice_index, slice_index_or, filter}
use Rattle.columns.specs.Parts.{with_rows}
use Rattle.plan_model.specs.Windows.{passes}
use Rattle.stream_model.specs.declared.entry.Entry.{Entry}
use Rattle.stream_model.specs.declared.entry.Marked.{Marked}
use Rattle.stream_model.specs.declared.entry.Entry.TheVariants as entry
use Rattle.stream_model.specs.InputData.{InputData, partition_at}
use Rattle.input_flow.specs.InputEntries.{message_of, brings}
use Rattle.dataflow_model.specs.declared.message.Message.{Message}
use Rattle.dataflow_model.specs.AbstractTask.{AbstractTask}
use Rattle.task_steps.specs.declared.setup.Setup.{Setup}
use Rattle.task_steps.specs.Sending.{sends}
use Rattle.task_steps.specs.TaskData.{TaskData, limit_at}
use Rattle.task_steps.specs.Running.{IsRunning}

-- the entries of the task's partition q
abbrev pub entries_at : Setup → InputData → ℕ → List Marked
entries_at s i q = partition_at i.sources s.source (slice_index s.partitions q)

-- the input has the task's partitions, as far as they are to be read
pub record HasPartitions (s : Setup) (i : InputData) : Type 0 where
  pub source : s.source < length i.sources
  pub count : length s.partitions ≡ s.inputs
  pub partition : (q : ℕ) → q < s.inputs → slice_index s.partitions q < length (slice_index_or i.sources s.source [])
  pub limits : (n q : ℕ) → limit_at s n q ≤ length (entries_at s i q)

-- task k reads these entries
pub record ReadsFrom (k : AbstractTask) (s : Setup) (i : InputData) : Type 0 where
  pub entry : (q n : ℕ) (d : Marked) → q < s.inputs → n < length (entries_at s i q) → k.entry q n ≡ message_of (slice_index_or (entries_at s i q) n d).entry
  pub brings : (q n : ℕ) (d : Marked) → q < s.inputs → n < length (entries_at s i q) → k.brings q n ≡ brings (slice_index_or (entries_at s i q) n d) (suc n == length (entries_at s i q))

-- what Read needs, as the code tests it
pub record IsReadable (t : TaskData) (q : ℕ) : Type 0 where
  pub running : IsRunning t
  pub partition : q < t.setup.inputs
  pub rest : slice_index t.state.offsets q < limit_at t.setup t.state.next q

-- the partition at place q has number n in its source, and can be read
pub record IsMine (t : TaskData) (n q : ℕ) : Type 0 where
  pub number : slice_index t.setup.partitions q ≡ n
  pub can : IsReadable t q

abbrev pub HasMine : TaskData → ℕ → Type 0
HasMine t n = (q : ℕ) × IsMine t n q

-- what an entry makes pending
abbrev pub sends_of : Setup → ℕ → Entry → List (ℕ × Message)
sends_of s cursor (entry.Rows t) = sends s.split s.outputs s.key cursor (with_rows t (filter (passes s.filters) t.rows))
sends_of s cursor (entry.Watermark w) = []
