-- An input as layouts and legs have it.
use Rattle.std.specs.Prelude.{ℕ, suc, ◌==◌, ℤ, List, length, slice_index_or, Bool, if◌then◌else◌}
use Rattle.plain_data.specs.Times.{highest}
use Rattle.plan_model.specs.PlanData.{PlanData}
use Rattle.stream_model.specs.declared.entry.Entry.{Entry}
use Rattle.stream_model.specs.declared.entry.Entry.TheVariants as entry
use Rattle.stream_model.specs.declared.entry.Marked.{Marked}
use Rattle.stream_model.specs.InputData.{InputData, partition_at, no_entry}
use Rattle.stream_model.specs.Watermarks.{watermark_of_entry, partition_watermark}
use Rattle.dataflow_model.specs.declared.message.Message.{Message}
use Rattle.dataflow_model.specs.declared.message.Message.TheVariants.{Rows, Watermark}
use Rattle.dataflow_model.specs.Leg.{count_at}
use Rattle.dataflow_model.specs.AbstractLayout.{AbstractInput}
use Rattle.layout_rules.specs.Layouts.{Entries, abstract_input, source_at, number_at}

-- an entry as a message
abbrev pub message_of : Entry → Message
message_of (entry.Rows t) = Rows t
message_of (entry.Watermark t) = Watermark t

-- the watermark that an entry brings: the greatest i64 with the last one
abbrev pub brings : Marked → Bool → ℤ
brings e last = if last then highest else watermark_of_entry e

-- entry n of a partition, by its source and its number there; past its end a watermark that moves nothing
abbrev pub entry_at : InputData → ℕ → ℕ → ℕ → Marked
entry_at i x k n = slice_index_or (partition_at i.sources x k) n no_entry

-- the entries of an input as messages, with what each brings, the watermarks after them, and how many there are
abbrev pub entries_of : InputData → Entries
entries_of i = record {
  entry = λ x k n. message_of (entry_at i x k n).entry;
  brings = λ x k n. brings (entry_at i x k n) (suc n == length (partition_at i.sources x k));
  watermark = λ x k n. partition_watermark (partition_at i.sources x k) n;
  size = λ x k. length (partition_at i.sources x k);
}

-- the plan's input in the abstract
abbrev pub input_of : PlanData → InputData → AbstractInput
input_of p i = abstract_input p (entries_of i)

-- what a cut has for the partition with this number through all sources
abbrev pub counts_at : PlanData → List (List ℕ) → ℕ → ℕ
counts_at p cut q = count_at cut (source_at p q) (number_at p q)
