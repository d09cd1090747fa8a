use Rattle.std.proofs.Common.{sym, subst}
use Rattle.leg_runs.specs.Choosing.{LeavesOthers}
use Rattle.leg_runs.proofs.OtherEnds.{put_end, take_end, inner_end}
use Rattle.leg_runs.proofs.schedule.other_end.Goals as goal

pub returns-in-Put : goal.returns-in-Put
returns-in-Put c same = subst (λ step. LeavesOthers c.args.world.now step c.receiver.result) (sym c.in-Put.is) (put_end c.args.world.now c.in-Put.task c.receiver.result c.receiver.ensures)

pub returns-in-Take : goal.returns-in-Take
returns-in-Take c same = subst (λ step. LeavesOthers c.args.world.now step c.sender.result) (sym c.in-Take.is) (take_end c.args.world.now c.args.layout.now c.in-Take.task c.in-Take.input c.sender.result c.has_failed-failed.ensures.sound same c.sender.ensures)

pub returns-in_default : goal.returns-in_default
returns-in_default c same = inner_end c.args.world.now c.args.step c.in_default.not-Put c.in_default.not-Take
