use Rattle.leg_runs.proofs.Counting.{counted_more}
use Rattle.leg_runs.proofs.schedule.counts_of.Goals as goal

pub loop-task-preserved : goal.loop-task-preserved
loop-task-preserved c = counted_more c.args.world.now c.args.layout.now c.loop-task.counts.items c.push.new.self.items c.loop-task.task c.count.result c.loop-task.invariant.0 c.loop-task.invariant.1 c.count.ensures c.in_ok-push.ensures.items
