-- What the text of an input stands for.
use Rattle.std.specs.Prelude.{ℕ, ℤ, pos, List, [], map, Option, unwrap_or, bytes_eq}
use Rattle.std.specs.Option.{option_map_or}
use Rattle.std.specs.List.{find}
use Rattle.plain_data.specs.Record.{Record}
use Rattle.plan_model.specs.PlanData.{PlanData}
use Rattle.stream_model.specs.declared.entry.Entry.{Entry}
use Rattle.stream_model.specs.declared.entry.Entry.TheVariants.{Rows, Watermark}
use Rattle.stream_model.specs.declared.entry.Marked.{Marked}
use Rattle.stream_model.specs.InputData.{InputData, input_data_of}
use Rattle.stream_model.specs.Marks.{mark_of}
use Rattle.input_texts.specs.InputText.{EntryText, rows, watermark, InputText}

-- the number of a cell, where it has one
abbrev pub number_of : Option ℤ → ℤ
number_of cell = unwrap_or cell (pos 0)

abbrev pub record_of : List (Option ℤ) → Record
record_of row = map number_of row

abbrev pub entry_of : ℕ → EntryText → Entry
entry_of columns (rows found) = Rows (record { width = columns; rows = map record_of found })
entry_of columns (watermark t) = Watermark (number_of t)

-- with the watermark that it brings in a source with this bound
abbrev pub marked_of : Option ℤ → ℕ → ℕ → EntryText → Marked
marked_of bound columns time e = record { entry = entry_of columns e; mark = mark_of bound time (entry_of columns e) }

-- the partitions of the member with a name, none where there is no such member
abbrev pub partitions_under : List ℕ → InputText → List (List EntryText)
partitions_under uid text = option_map_or (λ m. m.1) (find (λ m. bytes_eq m.0 uid) text) []

-- the partitions of each source, in the order of the plan
abbrev pub sources_of : PlanData → InputText → List (List (List Marked))
sources_of plan text = map (λ s. map (map (marked_of s.bound plan.columns plan.window.time)) (partitions_under s.uid text)) plan.sources

abbrev pub input_of : PlanData → InputText → InputData
input_of plan text = input_data_of plan.columns plan.window.time (sources_of plan text)
