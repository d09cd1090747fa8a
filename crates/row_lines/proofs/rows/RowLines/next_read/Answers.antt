use Rattle.std.proofs.Common.{Ok, subst, ◌∙◌}
use Rattle.row_lines.specs.Sequences.{IsNextLine}
use Rattle.row_lines.specs.declared.rows.RowsFault.TheVariants as fault
use Rattle.row_lines.proofs.Feeds.{next_refused}
use Rattle.row_lines.proofs.rows.RowLines.next_read.Goals as goal

pub returns-in-None-clause-read : goal.returns-in-None-clause-read
returns-in-None-clause-read g c =
    let r = g.R.Read.remaining in
    let mid = c.next_line.new.self in
    let line = subst (λ b. IsNextLine r c.args.self.now mid (Ok b)) c.if-not-branch.false c.in_ok-next_line.ensures.next in
    let none = rw c.in-None.is at c.in_ok-row.ensures in
    next_refused r c.args.self.now mid mid fault.Line line (λ row is wide same. none row is (c.line.ensures ∙ same))
