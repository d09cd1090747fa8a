-- What comes of a record.
use Rattle.import_fates.specs.declared.fate.Fate.{Fate}
use Rattle.import_fates.specs.declared.fate.Fate.TheVariants as fate
use Rattle.import_copies.specs.declared.outcome.Outcome.{Outcome}
use Rattle.import_copies.specs.declared.outcome.Outcome.TheVariants as outcome

-- where a record goes of which this comes
abbrev pub fate_of : Outcome → Fate
fate_of outcome.Written = fate.Written
fate_of (outcome.Late time mark) = fate.Late
fate_of (outcome.Twice place) = fate.Twice
fate_of (outcome.Bad fault) = fate.Bad
