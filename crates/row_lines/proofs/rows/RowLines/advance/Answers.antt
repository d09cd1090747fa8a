use Rattle.std.proofs.Common.{Ok, sym, subst}
use Rattle.row_lines.specs.Sequences.{IsNextLine, IsNext}
use Rattle.row_lines.proofs.Feeds.{next_refused, handed}
use Rattle.row_lines.proofs.rows.RowLines.advance.Goals as goal

pub returns-in_err-take_row-clause-next : goal.returns-in_err-take_row-clause-next
returns-in_err-take_row-clause-next g c =
    let r = g.R.Read.remaining in
    let line = subst (λ b. IsNextLine r c.args.self.now c.next_line.new.self (Ok b)) c.if-not-branch.false c.in_ok-next_line.ensures.next in
    let fault = c.in_err-take_row.field-0.0 in
    let handed_on = handed c.from_residual-in_err-take_row.result fault c.from_residual-in_err-take_row.ensures.0 c.from_residual-in_err-take_row.ensures.1 in
    subst (IsNext r c.args.self.now c.take_row.new.self) (sym handed_on)
    (next_refused r c.args.self.now c.next_line.new.self c.take_row.new.self fault line c.in_err-take_row.ensures.takes)
