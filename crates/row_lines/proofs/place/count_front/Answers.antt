use Rattle.row_lines.proofs.Fronts.{numbers_more}
use Rattle.row_lines.proofs.place.count_front.Goals as goal

pub loop-count-preserved : goal.loop-count-preserved
loop-count-preserved c = numbers_more c.args.text.now c.loop-count.rest.now c.in-Some-spaced_front.behind.now c.loop-count.count c.in-Some-spaced_front.field-0-0 c.loop-count.invariant c.in-Some-spaced_front.ensures
