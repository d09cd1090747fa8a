use Rattle.row_lines.proofs.Fronts.{negative_printed}
use Rattle.row_lines.proofs.number.negative_front.Goals as goal

pub returns-in-Some : goal.returns-in-Some
returns-in-Some c = negative_printed c.args.digits.now c.in-Some.rest.now c.in-Some.size (c.has_zero_first.ensures c.if-has_zero_first.false) c.in-Some.ensures
