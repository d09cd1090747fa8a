-- What is asked of the records of a file.
use Rattle.std.specs.Prelude.{◌≡◌, ℕ, List, Option}
use Rattle.imports.specs.Placing.{AreFields}
use Rattle.imports.specs.Reading.{point_in}
use Rattle.imports.specs.declared.kinds.Records.{Records}
use Rattle.import_copies.specs.Files.{Asked}
use Rattle.known_records.specs.Known.{columns_in}
use Rattle.import_copies.specs.Rows.{rule_in}
use Rattle.import_copies.specs.declared.files.ImportRule.{ImportRule}
use Rattle.known_records.specs.declared.known.KnownRecords.{KnownRecords}
use Rattle.import_copies.specs.declared.taking.Source.{Source}

abbrev pub asked_of : Source → Option KnownRecords → Asked
asked_of source known = record { fields = source.fields.now; picks = source.picks.now; rule = rule_in source; time = source.time; columns = columns_in known }

-- what an import asks of the records of a file, of which these columns may tell records apart
abbrev pub Asks : {R : Type 0} → ImportRule → Records R → Option (List ℕ) → Asked → Type 0
Asks rule rows columns asked = (asked.columns ≡ columns) × (asked.rule.columns ≡ rule.columns) × (asked.rule.point ≡ point_in rows rule.point) × (asked.time ≡ rule.time) × AreFields rule.columns.now asked.fields
