use Rattle.std.proofs.Common.{sym, subst, ◌∙◌}
use Rattle.row_lines.specs.Sequences.{Takes}
use Rattle.row_lines.proofs.Feeds.{take_refused, handed}
use Rattle.row_lines.proofs.rows.RowLines.take_row.Goals as goal

pub returns-in_err-take-clause-takes : goal.returns-in_err-take-clause-takes
returns-in_err-take-clause-takes g c =
    let given = rw c.in-Some.is at c.in_ok-row.ensures in
    let fault = c.in_err-take.field-0.0 in
    let handed_on = handed c.from_residual-in_err-take.result fault c.from_residual-in_err-take.ensures.0 c.from_residual-in_err-take.ensures.1 in
    subst (Takes c.args.self.now c.take.new.self) (sym handed_on)
    (take_refused c.args.self.now c.take.new.self c.in-Some.row c.place_of.result fault given.0 (sym c.line.ensures ∙ given.1) c.place_of.ensures c.in_err-take.ensures.takes)
