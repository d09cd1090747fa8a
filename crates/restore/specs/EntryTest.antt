-- What the tests of an entry in `src/entries.rt` ask.
use Rattle.std.specs.Prelude.{ℕ, Bool}
use Rattle.plan_model.specs.declared.spec.WindowSpec.{WindowSpec}
use Rattle.savepoint_codec.specs.EntriesData.{EntryData}
use Rattle.restore.specs.declared.entries.EntryTest.{EntryTest}
use Rattle.restore.specs.declared.entries.EntryTest.TheVariants.{InGroup, Open, Counted}
use Rattle.restore.specs.Requirements.{is_in_group, is_open, is_counted}

abbrev pub passes : WindowSpec → EntryTest → ℕ → EntryData → Bool
passes w (InGroup max) group = is_in_group max group
passes w (Open watermark) group = is_open w watermark
passes w (Counted most) group = is_counted most
