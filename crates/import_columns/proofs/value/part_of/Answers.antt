use Rattle.std.proofs.Common.{FitsSigned, w64, rules}
use Rattle.std.proofs.lemmas.Int.{to_z-of_z}
use Rattle.import_columns.proofs.value.part_of.Goals as goal

pub returns-in-Some : goal.returns-in-Some
returns-in-Some c =
    let fits : FitsSigned w64 c.in-Some.number = search rules in
    let counted = rw (to_z-of_z w64 c.args.milliseconds c.ranges.milliseconds) at c.in-Some.ensures in
    rw (to_z-of_z w64 c.in-Some.number fits) counted
