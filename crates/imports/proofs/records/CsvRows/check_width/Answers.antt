use Rattle.std.proofs.Common.{◌∙◌, sym, refl}
use Rattle.imports.proofs.records.CsvRows.check_width.Goals as goal

pub returns-in-Some : goal.returns-in-Some
returns-in-Some g c = (refl, c.len-width.ensures, c.in-Some.is, λ same. c.if-wanted-width.true (sym same))

pub returns-in-Some-2 : goal.returns-in-Some-2
returns-in-Some-2 g c = (refl, rw c.in-Some.is refl, rw c.in-Some.is (sym (c.if-wanted-width.false ∙ c.len-width.ensures)))

pub returns-in-None : goal.returns-in-None
returns-in-None g c = (refl, rw (c.in-None.is, c.len-width.ensures) refl, rw c.in-None.is tt)
