-- A layout of tasks joined by rings, in the abstract, and how it shares out an input.
use Rattle.std.specs.Prelude.{◌≡◌, ℕ, ℤ, ◌+◌, ◌/◌, ◌%◌, ◌<◌, ◌≤◌, Bool, true, false, ◌&&◌}
use Rattle.plain_data.specs.Record.{Record}
use Rattle.dataflow_model.specs.declared.message.Message.{Message}
use Rattle.dataflow_model.specs.declared.role.Role.TheVariants.{Source, Chain, Window, Sink}
use Rattle.dataflow_model.specs.Leg.{Leg}
use Rattle.dataflow_model.specs.AbstractTask.{Routing, Whole, Split, AbstractTask}

-- Tasks below `before` are sources and chains, those from there up to `sink` are windows, and `sink` is the sink
pub record AbstractLayout : Type 0 where
  pub before : ℕ
  pub sink : ℕ
  pub task : ℕ → AbstractTask
  -- of each source: its first task, and how many it has
  pub first_task : ℕ → ℕ
  pub parallelism : ℕ → ℕ
  -- whether a ring leads from one task to another
  pub ring : ℕ → ℕ → Bool
  -- the task at the other end of an input or output
  pub from : ℕ → ℕ → ℕ
  pub to : ℕ → ℕ → ℕ
  -- the number of a ring among the outputs of its sender and the inputs of its receiver
  pub out_at : ℕ → ℕ → ℕ
  pub in_at : ℕ → ℕ → ℕ
  -- the window task that owns a key
  pub owner : ℤ → ℕ
  -- what all filters keep, and what those after a task keep
  pub pass : Record → Bool
  pub rest : ℕ → Record → Bool

-- a split sends each key to the output at whose end its owner stands; whole batches go to no window
abbrev pub Sends : AbstractLayout → ℕ → Routing → Type 0
Sends l t Whole = (j : ℕ) → j < (l.task t).outputs → l.to t j < l.before
Sends l t (Split owner) = (key : ℤ) → (owner key < (l.task t).outputs) × (l.to t (owner key) ≡ l.owner key)

-- the laws of a layout
pub record IsLayout (l : AbstractLayout) : Type 0 where
  pub some_windows : l.before < l.sink
  pub roles_before : (t : ℕ) → t < l.before → ((l.task t).role ≡ Source → ⊥) → (l.task t).role ≡ Chain
  pub roles_window : (t : ℕ) → l.before ≤ t → t < l.sink → (l.task t).role ≡ Window
  pub role_sink : (l.task l.sink).role ≡ Sink
  pub forward : (s t : ℕ) → l.ring s t ≡ true → s < t
  pub no_ring_in : (s t : ℕ) → (l.task t).role ≡ Source → l.ring s t ≡ false
  -- each input is a ring, and each ring into a task an input
  pub input : (t i : ℕ) → ((l.task t).role ≡ Source → ⊥) → i < (l.task t).inputs → (l.ring (l.from t i) t ≡ true) × (l.in_at (l.from t i) t ≡ i)
  pub output : (s j : ℕ) → j < (l.task s).outputs → (l.ring s (l.to s j) ≡ true) × (l.out_at s (l.to s j) ≡ j) × (l.to s j ≤ l.sink)
  pub ring_in : (s t : ℕ) → l.ring s t ≡ true → (l.in_at s t < (l.task t).inputs) × (l.from t (l.in_at s t) ≡ s)
  pub ring_out : (s t : ℕ) → l.ring s t ≡ true → (l.out_at s t < (l.task s).outputs) × (l.to s (l.out_at s t) ≡ t)
  pub some_input : (t : ℕ) → ((l.task t).role ≡ Source → ⊥) → t ≤ l.sink → 0 < (l.task t).inputs
  pub some_output : (t : ℕ) → t < l.before → 0 < (l.task t).outputs
  -- before the windows no ring leads to the sink; from a window task one does, and no other
  pub before_sink : (t : ℕ) → t < l.before → l.ring t l.sink ≡ false
  pub window_out : (t : ℕ) → l.before ≤ t → t < l.sink → ((l.task t).outputs ≡ 1) × (l.ring t l.sink ≡ true)
  pub window_only : (t u : ℕ) → l.before ≤ t → t < l.sink → u < l.sink → l.ring t u ≡ false
  -- what leads to one window leads to all, each record to its owner
  pub all_windows : (t u v : ℕ) → l.before ≤ u → u < l.sink → l.before ≤ v → v < l.sink → l.ring t u ≡ true → l.ring t v ≡ true
  pub sends : (t : ℕ) → t < l.before → Sends l t (l.task t).routing
  pub owner_window : (k : ℤ) → (l.before ≤ l.owner k) × (l.owner k < l.sink)
  -- filters
  pub filters : (s t : ℕ) (r : Record) → t < l.before → l.ring s t ≡ true → l.rest s r ≡ ((l.task t).keeps r && l.rest t r)
  pub last_filter : (s t : ℕ) (r : Record) → l.before ≤ t → t < l.sink → l.ring s t ≡ true → l.rest s r ≡ true
  pub source_filter : (t : ℕ) (r : Record) → (l.task t).role ≡ Source → t < l.before → ((l.task t).keeps r && l.rest t r) ≡ l.pass r

-- an input: its partitions are numbered through all sources
pub record AbstractInput : Type 0 where
  pub sources : ℕ
  pub partitions : ℕ
  -- the source of a partition and its number there, and the number through all sources of a source's partition
  pub source : ℕ → ℕ
  pub number : ℕ → ℕ
  pub through : ℕ → ℕ → ℕ
  pub entry : ℕ → ℕ → Message
  pub brings : ℕ → ℕ → ℤ
  pub watermark : ℕ → ℕ → ℤ
  pub size : ℕ → ℕ
  pub pass : Record → Bool

-- the task that reads partition q, and its place among those that the task reads: of n tasks of a source, task i has
-- the partitions i, i + n, i + 2 n and so on
abbrev pub reader_of : AbstractInput → AbstractLayout → ℕ → ℕ
reader_of i l q = l.first_task (i.source q) + i.number q % l.parallelism (i.source q)

abbrev pub place_in_reader : AbstractInput → AbstractLayout → ℕ → ℕ
place_in_reader i l q = i.number q / l.parallelism (i.source q)

-- the partition at place k of task t
abbrev pub partition_read : AbstractInput → AbstractLayout → ℕ → ℕ → ℕ
partition_read i l t k = i.through (l.task t).source ((l.task t).partition k)

-- task t reads source x
pub record Reads (l : AbstractLayout) (x t : ℕ) : Type 0 where
  pub early : t < l.before
  pub role : (l.task t).role ≡ Source
  pub source : (l.task t).source ≡ x

-- partition q is at its place of the task that reads it
pub record IsDealt (i : AbstractInput) (l : AbstractLayout) (q : ℕ) : Type 0 where
  pub reads : Reads l (i.source q) (reader_of i l q)
  pub place : place_in_reader i l q < (l.task (reader_of i l q)).inputs
  pub partition : (l.task (reader_of i l q)).partition (place_in_reader i l q) ≡ i.number q
  pub back : partition_read i l (reader_of i l q) (place_in_reader i l q) ≡ q

-- place k of task t has a partition of the input, with its entries, and with the limits that the leg has for the
-- partition
pub record IsPlace (i : AbstractInput) (leg : Leg) (l : AbstractLayout) (t k : ℕ) : Type 0 where
  pub some : partition_read i l t k < i.partitions
  pub source : i.source (partition_read i l t k) ≡ (l.task t).source
  pub number : i.number (partition_read i l t k) ≡ (l.task t).partition k
  pub task : reader_of i l (partition_read i l t k) ≡ t
  pub place : place_in_reader i l (partition_read i l t k) ≡ k
  pub entry : (n : ℕ) → (l.task t).entry k n ≡ i.entry (partition_read i l t k) n
  pub brings : (n : ℕ) → (l.task t).brings k n ≡ i.brings (partition_read i l t k) n
  pub watermark : (n : ℕ) → (l.task t).watermark k n ≡ i.watermark (partition_read i l t k) n
  pub size : (l.task t).size k ≡ i.size (partition_read i l t k)
  pub limit : (m : ℕ) → (l.task t).limit m k ≡ leg.limit m (l.task t).source ((l.task t).partition k)

-- a layout deals each partition of an input to one place of one task
pub record Deals (i : AbstractInput) (leg : Leg) (l : AbstractLayout) : Type 0 where
  pub pass : (r : Record) → l.pass r ≡ i.pass r
  -- each source has a task, its tasks follow one another, and no other task reads a source
  pub some : (x : ℕ) → x < i.sources → 0 < l.parallelism x
  pub subtask : (x j : ℕ) → x < i.sources → j < l.parallelism x → Reads l x (l.first_task x + j)
  pub own : (t : ℕ) → t < l.before → (l.task t).role ≡ Source → ((l.task t).source < i.sources) × (l.first_task (l.task t).source ≤ t) × (t < l.first_task (l.task t).source + l.parallelism (l.task t).source)
  pub dealt : (q : ℕ) → q < i.partitions → IsDealt i l q
  pub there : (t k : ℕ) → t < l.before → (l.task t).role ≡ Source → k < (l.task t).inputs → IsPlace i leg l t k
