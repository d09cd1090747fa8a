-- The law of texts of the parts of an input, merged.
use Rattle.std.specs.Prelude.{◌≡◌, ℕ, ◌<◌, ◌≤◌, List, [], length, map, Option, Some, slice_index_or}
use Rattle.std.specs.Io.KnownBytes.{Appends}
use Rattle.plan_model.specs.PlanData.{PlanData, IsPlan}
use Rattle.stream_model.specs.InputData.{InputData}
use Rattle.stream_model.specs.PlanRows.{plan_rows}
use Rattle.input_parts.specs.Parts.{part_of_input}
use Rattle.job_texts.specs.Text.{IsTextOf}
use Rattle.row_merges.specs.Merges.{MergesRows}

-- each text is that of the plan's rows on one part
abbrev pub AreTextsOfParts : PlanData → ℕ → InputData → List (List ℕ) → Type 0
AreTextsOfParts plan parts input texts = (i : ℕ) → i < parts → IsTextOf (plan_rows plan (part_of_input plan parts i input).sources) (slice_index_or texts i [])

-- what a merge writes of them is just the text of the plan's rows on the whole input
abbrev pub MergedPartsAreTheWhole : Type 0
MergedPartsAreTheWhole = (plan : PlanData) (parts : ℕ) (input : InputData) (texts : List (List ℕ)) (whole : List ℕ) (before after : Option (List ℕ))
    → IsPlan plan → 1 ≤ parts → length texts ≡ parts → AreTextsOfParts plan parts input texts → IsTextOf (plan_rows plan input.sources) whole
    → MergesRows (map Some texts) before after → Appends before after whole
