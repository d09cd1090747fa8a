use Rattle.std.proofs.Common.{◌≤◌, length, arith}
use Rattle.row_lines.specs.Lines.{held_of, lines_left}
use Rattle.row_lines.proofs.Places.{no_line}
use Rattle.row_lines.proofs.lines.Lines.advance.Goals as goal

pub returns-then-count-ge-LONGEST_LINE : goal.returns-then-count-ge-LONGEST_LINE
returns-then-count-ge-LONGEST_LINE g c =
    let long : 391 ≤ length (held_of c.loop.self) = omega (arith, c.count.ensures) in
    no_line (lines_left g.R.Read.remaining c.args.self.now) (g.R.Read.remaining c.loop.self.input) (held_of c.loop.self) c.loop.invariant long c.in_default.ensures
