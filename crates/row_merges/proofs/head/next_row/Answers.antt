use Rattle.row_merges.proofs.Refusing.{told_next}
use Rattle.row_merges.proofs.head.next_row.Goals as goal

pub returns-in-Err-clause-refused : goal.returns-in-Err-clause-refused
returns-in-Err-clause-refused g c =
    told_next g.R.Read.remaining c.args.rows.now c.advance_place.new.self c.args.place c.line_number.result c.in-Err.fault c.fault_at.result c.line_number.ensures c.in-Err.ensures.next c.in-Err.ensures.number c.fault_at.ensures
