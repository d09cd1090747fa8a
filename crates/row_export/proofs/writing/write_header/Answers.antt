use Rattle.std.proofs.Common.{rules}
use Rattle.row_export.proofs.writing.write_header.Goals as goal

pub returns-in_err-put-clause-refused : goal.returns-in_err-put-clause-refused
returns-in_err-put-clause-refused g c = λ kinds.
    let told = c.in_err-put.ensures.refused kinds in
    search rules
