-- The texts of all parts, each taken a step.
use Rattle.std.specs.Prelude.{◌≡◌, ℕ, ◌<◌, Bool, true, false, List, length, slice_index_or}
use Rattle.import_entries.specs.declared.place.Place.{Place}
use Rattle.import_entries.specs.declared.place.Place.TheVariants.{Joins, Begins}
use Rattle.entry_texts.specs.Partitions.{Row}
use Rattle.dealt_texts.specs.Parts.{Growing, nothing, closed, with_marks, with_row}

-- the text at a place
abbrev pub text_at : List Growing → ℕ → Growing
text_at texts i = slice_index_or texts i nothing

-- each text is taken a step, by its place
pub record Each (step : ℕ → Growing → Growing) (old new : List Growing) : Type 0 where
  pub same : length new ≡ length old
  pub each : (i : ℕ) → i < length old → text_at new i ≡ step i (text_at old i)

-- with what stands between entries where a row begins one in the whole
abbrev pub placed : Place → Growing → Growing
placed Joins part = part
placed (Begins mark) part = with_marks mark (closed part)

-- with a row behind it, if it goes to this part
abbrev pub dealt : Bool → Row → Growing → Growing
dealt false row part = part
dealt true row part = with_row row.first row.others part
