-- The laws of starts that are dealt out.
use Rattle.std.specs.Prelude.{◌≡◌, ℕ, ◌<◌, List, [], length, map, replicate, slice_get, slice_index_or, Some}
use Rattle.std.specs.FinMap.{empty, from_entries}
use Rattle.plain_data.specs.Times.{lowest}
use Rattle.plan_model.specs.PlanData.{PlanData, IsPlan}
use Rattle.stream_model.specs.InputData.{InputData, BelongsTo}
use Rattle.stream_model.specs.Watermarks.{records_before}
use Rattle.dataflow_model.specs.AbstractLayout.{AbstractLayout}
use Rattle.dataflow_model.specs.Opening.{opening}
use Rattle.dataflow_model.specs.Start.{IsLegStart}
use Rattle.dataflow_model.specs.Leg.{Until}
use Rattle.dataflow_model.specs.State.{State}
use Rattle.layout_rules.specs.Layouts.{partition_counts}
use Rattle.layout_rules.specs.declared.stage.Stage.{Stage}
use Rattle.layout_rules.specs.Stages.{source_of, task_stage, task_count}
use Rattle.plan_compiler.specs.LayoutData.{LayoutData, IsLayoutOf}
use Rattle.input_flow.specs.InputEntries.{input_of, counts_at}
use Rattle.dataflow_laws.specs.Legs.{AreAt, HaveMarks}
use Rattle.dataflow_laws.specs.Owned.{HaveOwnPanes}
use Rattle.dataflow_laws.specs.Inputs.{HaveCut}
use Rattle.dataflow_laws.specs.Compiled.{layout_to}
use Rattle.window_state.specs.Parts.{entries_of}
use Rattle.redistribute.specs.declared.task_start.PartitionStart.{PartitionStart}
use Rattle.redistribute.specs.declared.task_start.TaskStart.{TaskStart}
use Rattle.redistribute.specs.declared.task_start.TaskStart.TheVariants.{Source, Chain, Window, Sink}
use Rattle.redistribute.specs.StartData.{StartData, IsStartOf, offsets_of}
use Rattle.redistribute.specs.Begins.{IsStartIn, HasSnapshot}
use Rattle.redistribute.specs.Stopping.{CanGo, CanSaveAt}
use Rattle.redistribute.specs.Parts.{partition_start, task_start, whole_task_start, partitions_in}

-- the start has partition q of source x
pub record HasPartition (s : StartData) (x q : ℕ) : Type 0 where
  pub source : x < length s.sources
  pub partition : q < length (slice_index_or s.sources x [])

-- partition q of source x stands at place k of what task t begins with, as the start has it
pub record StandsAt (p : PlanData) (s : StartData) (stages : List Stage) (x q t k : ℕ) : Type 0 where
  pub task : t < task_count stages
  pub source : source_of (task_stage stages t).operators ≡ x
  pub is : slice_get (partitions_in (task_start (partition_counts p) s stages t)) k ≡ Some (partition_start s x q)

-- each partition stands in what one task begins with, at one place
abbrev pub EachPartitionOnce : Type 0
EachPartitionOnce = (p : PlanData) (l : LayoutData) (s : StartData) (x q : ℕ) → IsPlan p → IsLayoutOf p l → IsStartOf p s → HasPartition s x q
    → (t : ℕ) × (k : ℕ) × StandsAt p s l.stages x q t k × ((t' k' : ℕ) → StandsAt p s l.stages x q t' k' → (t' ≡ t) × (k' ≡ k))

-- and nothing else stands there
abbrev pub NothingElse : Type 0
NothingElse = (p : PlanData) (l : LayoutData) (s : StartData) (t k : ℕ) (b : PartitionStart) → IsPlan p → IsLayoutOf p l → IsStartOf p s → t < task_count l.stages
    → slice_get (partitions_in (task_start (partition_counts p) s l.stages t)) k ≡ Some b
    → (x : ℕ) × (q : ℕ) × HasPartition s x q × StandsAt p s l.stages x q t k

-- the state that a task of so many inputs begins in, where it begins with this
abbrev pub opening_of : ℕ → TaskStart → State
opening_of n (Source starts) = opening n (map (λ b. b.offset) starts) (map (λ b. b.watermark) starts) empty
opening_of n Chain = opening n [] (replicate n lowest) empty
opening_of n (Window parts) = opening n [] (replicate n lowest) (from_entries (entries_of parts))
opening_of n Sink = opening n [] (replicate n lowest) empty

-- the states that the tasks of a layout of these stages begin in, of a start
abbrev pub opening_states : PlanData → StartData → AbstractLayout → List Stage → ℕ → State
opening_states p s a stages t = opening_of (a.task t).inputs (whole_task_start p.max (partition_counts p) s stages t)

-- tasks that begin with a start of the input, in a leg that can go as far, and take savepoints, as it is to, are tasks
-- of one leg in opening states
abbrev pub TasksOpen : Type 0
TasksOpen = (p : PlanData) (l : LayoutData) (i : InputData) (s : StartData) (saves : List (List (List ℕ))) (until : Until) → IsPlan p → IsLayoutOf p l → BelongsTo p i → IsStartIn p i s → CanGo i.sources (offsets_of s) until → CanSaveAt i.sources (offsets_of s) saves until
    → let a = layout_to p i s.number saves until l.stages in IsLegStart p a (opening_states p s a l.stages)

-- and where the start has the snapshot of its cut, so have they, with the watermarks there
abbrev pub TasksHaveSnapshot : Type 0
TasksHaveSnapshot = (p : PlanData) (l : LayoutData) (i : InputData) (s : StartData) (saves : List (List (List ℕ))) (until : Until) → IsPlan p → IsLayoutOf p l → BelongsTo p i → IsStartIn p i s → HasSnapshot p i s
    → let a = layout_to p i s.number saves until l.stages in let states = opening_states p s a l.stages in
    HaveCut p i a states (offsets_of s) × HaveMarks (input_of p i) a states (counts_at p (offsets_of s))

-- and each of the window's tasks has its own panes alone, of no more records than stand before the start's cut, where
-- the sources are
abbrev pub TasksHaveOwnPanes : Type 0
TasksHaveOwnPanes = (p : PlanData) (l : LayoutData) (i : InputData) (s : StartData) (saves : List (List (List ℕ))) (until : Until) → IsPlan p → IsLayoutOf p l → BelongsTo p i → IsStartIn p i s
    → let a = layout_to p i s.number saves until l.stages in let states = opening_states p s a l.stages in
    AreAt (input_of p i) a states (counts_at p (offsets_of s)) × HaveOwnPanes a states (length (records_before i.sources (offsets_of s)))
