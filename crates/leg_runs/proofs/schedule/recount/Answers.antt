use Rattle.std.proofs.Common.{arith}
use Rattle.leg_runs.proofs.Counting.{recounted_one, recounted_none}
use Rattle.leg_runs.proofs.schedule.recount.Goals.{else-task-task_count-via-then-task-task_count+else-place-counts, else-task-task_count-via-else-task-task_count}
use Rattle.leg_runs.proofs.schedule.recount.Goals as goal

pub returns-then-place-counts : goal.returns-then-place-counts
returns-then-place-counts c = recounted_one c.args.world.now c.args.layout.now c.args.task c.count.result c.args.counts.now c.if-place-counts.true c.count.ensures

pub returns-else-task-task_count : goal.returns-else-task-task_count
returns-else-task-task_count c = recounted_none c.args.world.now c.args.layout.now c.args.task c.args.counts.now (λ less long. elim c.else-task-task_count.branch [
  | else-task-task_count-via-then-task-task_count+else-place-counts w ↦ (let e = w.if-place-counts.false in absurd (omega (arith, long, e)))
  | else-task-task_count-via-else-task-task_count w ↦ (let e = w.if-task-task_count.false in let f = c.task_count.ensures.says in absurd (omega (arith, less, e, f)))
])
