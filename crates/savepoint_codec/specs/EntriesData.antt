-- Entries of a key group as contracts see them.
use Rattle.std.specs.Prelude.{ℕ, List}
use Rattle.plan_model.specs.declared.spec.Pane.{Pane}
use Rattle.plan_model.specs.Aggregates.{Aggregated}

-- what the records of a pane come to
pub record EntryData : Type 0 where
  pub pane : Pane
  pub total : Aggregated

-- entries in order, each with so many numbers
pub record EntriesData : Type 0 where
  pub width : ℕ
  pub entries : List EntryData
