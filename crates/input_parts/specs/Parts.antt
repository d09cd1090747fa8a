-- The parts of an input: in each the records whose keys' groups are one subtask's, and all watermarks that stand in it.
use Rattle.std.specs.Prelude.{ℕ, ℤ, ◌==◌, Bool, List, [], ◌∷◌, map, Option, None}
use Rattle.std.specs.List.{filter, flat_map}
use Rattle.plain_data.specs.Record.{Record, at}
use Rattle.key_groups.specs.Groups.{key_group}
use Rattle.key_groups.specs.Ranges.{group_owner}
use Rattle.plan_model.specs.PlanData.{PlanData}
use Rattle.plan_model.specs.declared.spec.SourceSpec.{SourceSpec}
use Rattle.stream_model.specs.declared.entry.Entry.{Entry}
use Rattle.stream_model.specs.declared.entry.Entry.TheVariants.{Rows, Watermark}
use Rattle.stream_model.specs.declared.entry.Marked.{Marked}
use Rattle.stream_model.specs.InputData.{InputData, input_data_of}
use Rattle.stream_model.specs.Marks.{mark_of}

-- the part, of so many, that has a key: the subtask of an operator with so many that owns the key's group
abbrev pub part_of_key : PlanData → ℕ → ℤ → ℕ
part_of_key plan parts key = group_owner plan.max parts (key_group plan.max key)

-- a record stands in part i
abbrev pub is_in_part : PlanData → ℕ → ℕ → Record → Bool
is_in_part plan parts i r = part_of_key plan parts (at plan.window.key r) == i

-- an entry of these rows, if there are any
abbrev pub entry_of_rows : ℕ → List Record → List Entry
entry_of_rows width [] = []
entry_of_rows width (r ∷ rs) = Rows (record { width = width; rows = r ∷ rs }) ∷ []

-- an entry with just the records that are kept: one of rows is left out where none are, and no watermark is
abbrev pub entry_kept : (Record → Bool) → Entry → List Entry
entry_kept keep (Rows batch) = entry_of_rows batch.width (filter keep batch.rows)
entry_kept keep (Watermark t) = Watermark t ∷ []

-- so it is of entries, in order
abbrev pub entries_kept : (Record → Bool) → List Entry → List Entry
entries_kept keep entries = flat_map (entry_kept keep) entries

-- the entries of a partition without their marks, and with those that their source gives them
abbrev pub unmarked : List Marked → List Entry
unmarked entries = map (λ m. m.entry) entries

abbrev pub marked_by : Option ℤ → ℕ → Entry → Marked
marked_by bound time e = record { entry = e; mark = mark_of bound time e }

abbrev pub marked : Option ℤ → ℕ → List Entry → List Marked
marked bound time entries = map (marked_by bound time) entries

-- what is left of a partition where just some records are kept
abbrev pub entries_left : (Record → Bool) → List Marked → List Entry
entries_left keep entries = entries_kept keep (unmarked entries)

-- and the same marked: a source that makes its own watermarks makes them of what is left
abbrev pub partition_kept : (Record → Bool) → Option ℤ → ℕ → List Marked → List Marked
partition_kept keep bound time entries = marked bound time (entries_left keep entries)

-- so it is of each partition of each source
abbrev pub sources_kept : (Record → Bool) → ℕ → List SourceSpec → List (List (List Marked)) → List (List (List Marked))
sources_kept keep time specs [] = []
sources_kept keep time [] (s ∷ ss) = map (partition_kept keep None time) s ∷ sources_kept keep time [] ss
sources_kept keep time (spec ∷ specs) (s ∷ ss) = map (partition_kept keep spec.bound time) s ∷ sources_kept keep time specs ss

-- part i of an input, of so many, by a plan
abbrev pub part_of_input : PlanData → ℕ → ℕ → InputData → InputData
part_of_input plan parts i input = input_data_of input.columns input.time (sources_kept (is_in_part plan parts i) input.time plan.sources input.sources)
