use Rattle.std.specs.Io.KnownBytes.{Keeps}
use Rattle.row_lines.specs.Lines.{lines_left}
use Rattle.row_lines.proofs.lines.Lines.advance.Given as goal

abbrev pub invariant-loop : goal.invariant-loop
invariant-loop g l = Keeps (lines_left g.R.Read.remaining l.fn.self) (lines_left g.R.Read.remaining l.self)
