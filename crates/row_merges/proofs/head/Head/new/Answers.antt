use Rattle.row_merges.proofs.Passing.{opened}
use Rattle.row_merges.proofs.head.Head.new.Goals as goal

pub returns : goal.returns
returns g c =
    opened g.R.Read.remaining (g.R.Read.remaining c.args.text) c.in_ok-rows.rows (record { rows = c.next_row.new.rows; row = c.in_ok-row.row }) c.in_ok-rows.ensures.left c.in_ok-rows.ensures.width c.in_ok-rows.ensures.last c.in_ok-row.ensures.next
