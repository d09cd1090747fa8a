use Rattle.std.proofs.Common.{ap, ◌∙◌}
use Rattle.row_merges.proofs.Passing.{is_there}
use Rattle.row_merges.proofs.Refusing.{told_row}
use Rattle.row_merges.specs.declared.head.Head.{Head}
use Rattle.row_merges.proofs.merge.Merge.admit.Goals as goal

pub unwrap-row-requires : goal.unwrap-row-requires
unwrap-row-requires g c =
    let head = c.index-head.result.now in
    let here = c.requires.1 head in
    is_there head.row here.0 (ap (λ (h : Head g.row.R.Denot). h.row) c.index-head.ensures ∙ here.1)

pub returns-in-Err-clause-refused : goal.returns-in-Err-clause-refused
returns-in-Err-clause-refused g c =
    told_row c.args.self.now c.args.place c.index-head.result.now c.unwrap-row.result c.line_number.result c.fault_at.result c.requires.0 c.index-head.ensures c.unwrap-row.ensures c.line_number.ensures c.in-Err.fault c.in-Err.ensures c.fault_at.ensures
