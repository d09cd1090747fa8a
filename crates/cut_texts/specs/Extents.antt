-- The text of how far partitions go: a line for each.
use Rattle.std.specs.Prelude.{ℕ, List, [], ◌∷◌, ◌++◌, codes, zip, Option, Some, None}
use Rattle.std.specs.List.{flat_map, enumerate_from}
use Rattle.plan_model.specs.declared.spec.SourceSpec.{SourceSpec}
use Rattle.input_cuts.specs.declared.extent.Extent.{Extent}
use Rattle.input_cuts.specs.declared.extent.Times.{Times}
use Rattle.job_texts.specs.Text.{spaced}
use Rattle.job_texts.specs.LayoutText.{spaced as count_word}

-- the least and the greatest time; a hyphen each, where there are none
abbrev pub times_words : Option Times → List ℕ
times_words None = codes " - -"
times_words (Some t) = spaced t.least ++ spaced t.greatest

-- the source and the number of a partition, its entries and records, its times and its greatest watermark
abbrev pub extent_line : List ℕ → ℕ × Extent → List ℕ
extent_line uid p = codes "source " ++ uid ++ count_word p.0 ++ count_word p.1.entries ++ count_word p.1.records ++ times_words p.1.times ++ spaced p.1.watermark ++ 10 ∷ []

-- the lines of a source, whose partitions are numbered from 0
abbrev pub source_lines : SourceSpec × List Extent → List ℕ
source_lines s = flat_map (extent_line s.0.uid) (enumerate_from 0 s.1)

abbrev pub extents_text : List SourceSpec → List (List Extent) → List ℕ
extents_text sources extents = flat_map source_lines (zip sources extents)
