-- An input as contracts see it.
use Rattle.std.specs.Prelude.{◌≡◌, ℕ, ◌^◌, ◌≤◌, List, [], length, map, slice_index_or}
use Rattle.std.specs.List.{All, AllZip, flat_map}
use Rattle.plain_data.specs.Record.{Record}
use Rattle.plain_data.specs.Times.{lowest}
use Rattle.plan_model.specs.PlanData.{PlanData}
use Rattle.plan_model.specs.declared.limits.TheConstants.{MOST_RECORDS}
pub use Rattle.plan_model.specs.Windows.{IsTime}
use Rattle.stream_model.specs.declared.entry.Entry.TheVariants.{Watermark}
use Rattle.stream_model.specs.declared.entry.Marked.{Marked}
pub use Rattle.stream_model.specs.Marks.{rows_in, IsEntryOf, IsMark, IsMarked}

-- the number of columns, the column of the times, and for each source its partitions
pub record InputData : Type 0 where
  pub columns : ℕ
  pub time : ℕ
  pub sources : List (List (List Marked))

abbrev pub input_data_of : ℕ → ℕ → List (List (List Marked)) → InputData
input_data_of columns time sources = record { columns = columns; time = time; sources = sources }

abbrev pub partition_at : List (List (List Marked)) → ℕ → ℕ → List Marked
partition_at sources source partition = slice_index_or (slice_index_or sources source []) partition []

abbrev pub records_of_entry : Marked → List Record
records_of_entry m = rows_in m.entry

-- the records of entries, of partitions and of sources, in order
abbrev pub records_in : List Marked → List Record
records_in entries = flat_map records_of_entry entries

abbrev pub records_in_source : List (List Marked) → List Record
records_in_source partitions = flat_map records_in partitions

abbrev pub all_records : List (List (List Marked)) → List Record
all_records sources = flat_map records_in_source sources

-- an entry of the input's width in range, with a mark in range
abbrev pub IsEntry : ℕ → ℕ → Marked → Type 0
IsEntry columns time m = IsEntryOf columns time m.entry × IsMark m.mark

-- what every input that is read meets
pub record IsInput (i : InputData) : Type 0 where
  pub entries : All (λ partitions. All (λ entries. All (IsEntry i.columns i.time) entries) partitions) i.sources
  pub few : length (all_records i.sources) ≤ MOST_RECORDS

-- where nothing stands: a watermark that moves nothing
abbrev pub no_entry : Marked
no_entry = record { entry = Watermark lowest; mark = lowest }

-- each entry has the mark that its source gives it
abbrev pub AreMarked : PlanData → InputData → Type 0
AreMarked plan i = AllZip (λ s partitions. All (λ entries. All (IsMarked s.bound i.time) entries) partitions) plan.sources i.sources

-- the input was read by the plan: its columns and time are the plan's, it has the plan's sources and partitions, and
-- each source's marks
pub record BelongsTo (plan : PlanData) (i : InputData) : Type 0 where
  pub columns : i.columns ≡ plan.columns
  pub time : i.time ≡ plan.window.time
  pub partitions : map (λ partitions. length partitions) i.sources ≡ map (λ s. s.partitions) plan.sources
  pub marks : AreMarked plan i
