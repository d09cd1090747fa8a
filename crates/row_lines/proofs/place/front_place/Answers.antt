use Rattle.std.proofs.Common.{arith}
use Rattle.row_lines.proofs.Fronts.{line_given}
use Rattle.row_lines.proofs.place.front_place.Goals as goal

pub returns : goal.returns
returns c =
    line_given c.args.text.now c.in_ok-start.behind_front.now c.in_ok-key.behind_key.now c.in_ok-width.rest.now c.in_ok-start.start c.in_ok-start.field-0-1 c.in_ok-key.key c.in_ok-width.width
    c.in_ok-start.ensures c.in_ok-key.ensures c.in_ok-width.ensures (omega (arith, c.if-width-eq0.false))
