use Rattle.std.proofs.Common.{refl}
use Rattle.imports.proofs.records.CsvRows.separated.Goals as goal

pub returns : goal.returns
returns g c text is = (refl, c.in_ok-new.ensures text (rw c.new.ensures is))
