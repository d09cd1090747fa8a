use Rattle.row_lines.specs.Sequences.{rows_left, width_of}
use Rattle.row_lines.proofs.Feeds.{no_row_left}
use Rattle.row_lines.proofs.rows.RowLines.next_line.Goals as goal

pub returns-in-Ok-NoLine-clause-next : goal.returns-in-Ok-NoLine-clause-next
returns-in-Ok-NoLine-clause-next g c = no_row_left (width_of c.args.self.now) (rows_left g.R.Read.remaining c.args.self.now) (rw c.in-Ok-NoLine.field-0-is at c.in-Ok-NoLine.ensures)
