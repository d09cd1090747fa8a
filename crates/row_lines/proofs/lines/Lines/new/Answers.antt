use Rattle.row_lines.proofs.Places.{nothing_held}
use Rattle.row_lines.proofs.lines.Lines.new.Goals as goal

pub returns : goal.returns
returns g c = nothing_held (g.R.Read.remaining c.args.input) c.new.result.items c.new.ensures.items
