use Rattle.std.proofs.Common.{rules}
use Rattle.row_export.specs.Shown.{kinds_of}
use Rattle.row_export.proofs.writing.write_table.Goals as goal

pub returns-in_err-out-clause-refused : goal.returns-in_err-out-clause-refused
returns-in_err-out-clause-refused g c =
    let told = c.in_err-out.ensures.refused (kinds_of c.args.table.now) in
    search rules
