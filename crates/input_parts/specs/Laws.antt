-- The laws of the parts of an input.
use Rattle.std.specs.Prelude.{◌≡◌, ◌==◌, ℕ, ◌<◌, ◌≤◌, ℤ, List, [], ◌∷◌, length, map, slice_index_or, None, if◌then◌else◌}
use Rattle.std.specs.List.{All, filter, flat_map}
use Rattle.plan_model.specs.declared.spec.Pane.{Pane}
use Rattle.plan_model.specs.declared.spec.Row.{Row}
use Rattle.plan_model.specs.PlanData.{PlanData, IsPlan, IsBound}
use Rattle.plan_model.specs.Rows.{AreRowsOf}
use Rattle.stream_model.specs.declared.entry.Entry.{Entry}
use Rattle.stream_model.specs.declared.entry.Entry.TheVariants.{Rows, Watermark}
use Rattle.stream_model.specs.declared.entry.Marked.{Marked}
use Rattle.stream_model.specs.InputData.{InputData, IsInput, BelongsTo, records_in}
use Rattle.stream_model.specs.Watermarks.{IsOrderly}
use Rattle.stream_model.specs.PlanRows.{plan_rows}
use Rattle.input_parts.specs.Parts.{part_of_key, is_in_part, part_of_input}

-- an input of a plan, without late records
pub record IsInputOf (plan : PlanData) (input : InputData) : Type 0 where
  pub is : IsInput input
  pub belongs : BelongsTo plan input
  pub orderly : IsOrderly input.time input.sources

-- a part is an input of the same plan: where a source makes its own watermarks, by a bound in range, the part has those
-- of its own records
abbrev pub PartsAreInputs : Type 0
PartsAreInputs = (plan : PlanData) (parts i : ℕ) (input : InputData) → All (λ s. IsBound s.bound) plan.sources → IsInputOf plan input → IsInputOf plan (part_of_input plan parts i input)

-- the watermarks that stand in entries, in order
abbrev pub watermarks_of_entry : Entry → List ℤ
watermarks_of_entry (Rows batch) = []
watermarks_of_entry (Watermark t) = t ∷ []

abbrev pub watermarks_in : List Marked → List ℤ
watermarks_in entries = flat_map (λ m. watermarks_of_entry m.entry) entries

-- an entry has a watermark or at least one record
abbrev pub HasSome : Entry → Type 0
HasSome (Rows batch) = 1 ≤ length batch.rows
HasSome (Watermark t) = Unit {0}

-- each partition of a part has its own records and all watermarks that stand in the input's, each in their order, and
-- no entry with nothing
pub record KeepsOwn (plan : PlanData) (parts i : ℕ) (input part : InputData) : Type 0 where
  pub records : map (map records_in) part.sources ≡ map (map (λ entries. filter (is_in_part plan parts i) (records_in entries))) input.sources
  pub watermarks : map (map watermarks_in) part.sources ≡ map (map watermarks_in) input.sources
  pub some : All (λ partitions. All (λ entries. All (λ m. HasSome m.entry) entries) partitions) part.sources

abbrev pub PartsKeepTheirOwn : Type 0
PartsKeepTheirOwn = (plan : PlanData) (parts i : ℕ) (input : InputData) → KeepsOwn plan parts i input (part_of_input plan parts i input)

-- the plan's rows on a part are those of its own keys on the whole input
abbrev pub PartsHaveTheirRows : Type 0
PartsHaveTheirRows = (plan : PlanData) (parts i : ℕ) (input : InputData) (q : Pane)
    → plan_rows plan (part_of_input plan parts i input).sources q ≡ (if part_of_key plan parts q.key == i then plan_rows plan input.sources q else None)

-- each list has the plan's rows on one part, in any order
abbrev pub AreRowsOfParts : PlanData → ℕ → InputData → List (List Row) → Type 0
AreRowsOfParts plan parts input lists = (i : ℕ) → i < parts → AreRowsOf (plan_rows plan (part_of_input plan parts i input).sources) (slice_index_or lists i [])

-- together they are the plan's rows on the whole input, each once
abbrev pub RowsOfPartsAreAll : Type 0
RowsOfPartsAreAll = (plan : PlanData) (parts : ℕ) (input : InputData) (lists : List (List Row)) → IsPlan plan → 1 ≤ parts → length lists ≡ parts
    → AreRowsOfParts plan parts input lists → AreRowsOf (plan_rows plan input.sources) (flat_map (λ rows. rows) lists)
