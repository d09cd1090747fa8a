-- The JSON text of an input: compact, with commas between cells, records, entries, partitions and sources.
use Rattle.std.specs.Prelude.{ℕ, ℤ, List, ◌++◌, map, zip, codes}
use Rattle.std.specs.Fmt.{signed_decimal}
use Rattle.std.specs.List.{join_with_byte, range_with_len}
use Rattle.plain_data.specs.Record.{Record, at}
use Rattle.columns.specs.Table.{Table}
use Rattle.plan_model.specs.PlanData.{PlanData}
use Rattle.plan_model.specs.declared.spec.SourceSpec.{SourceSpec}
use Rattle.input_parts.specs.Parts.{unmarked}
use Rattle.stream_model.specs.InputData.{InputData}
use Rattle.stream_model.specs.declared.entry.Entry.{Entry}
use Rattle.stream_model.specs.declared.entry.Entry.TheVariants.{Rows, Watermark}

-- so many numbers of a record
abbrev pub cells_text : ℕ → Record → List ℕ
cells_text width record_ = join_with_byte 44 (map (λ c. signed_decimal (at c record_)) (range_with_len 0 width))

abbrev pub record_text : ℕ → Record → List ℕ
record_text width record_ = codes "[" ++ (cells_text width record_ ++ codes "]")

abbrev pub records_text : ℕ → List Record → List ℕ
records_text width records = join_with_byte 44 (map (record_text width) records)

abbrev pub rows_entry : Table → List ℕ
rows_entry table = codes "{\"rows\":[" ++ (records_text table.width table.rows ++ codes "]}")

unfoldable pub mark_name : List ℕ
mark_name = codes "{\"watermark\":"

abbrev pub mark_entry : ℤ → List ℕ
mark_entry time = mark_name ++ (signed_decimal time ++ codes "}")

abbrev pub entry_text : Entry → List ℕ
entry_text (Rows batch) = rows_entry batch
entry_text (Watermark time) = mark_entry time

abbrev pub entries_text : List Entry → List ℕ
entries_text entries = join_with_byte 44 (map entry_text entries)

abbrev pub partition_text : List Entry → List ℕ
partition_text entries = codes "[" ++ (entries_text entries ++ codes "]")

abbrev pub partitions_text : List (List Entry) → List ℕ
partitions_text partitions = join_with_byte 44 (map partition_text partitions)

-- a source's uid, which needs no escapes, and its partitions
abbrev pub source_text : SourceSpec × List (List Entry) → List ℕ
source_text s = codes "\"" ++ (s.0.uid ++ (codes "\":[" ++ (partitions_text s.1 ++ codes "]")))

abbrev pub sources_text : List (SourceSpec × List (List Entry)) → List ℕ
sources_text sources = join_with_byte 44 (map source_text sources)

-- the sources in the order of the plan, and a line feed. A watermark that a source makes stands in no text
abbrev pub input_text : PlanData → InputData → List ℕ
input_text plan input = codes "{" ++ (sources_text (zip plan.sources (map (map unmarked) input.sources)) ++ codes "}\n")
