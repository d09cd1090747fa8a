use Rattle.std.proofs.Common.{◌<◌, arith}
use Rattle.leg_runs.proofs.Counting.{none_at_all, chosen_is, never_missed, sum_more}
use Rattle.leg_runs.proofs.schedule.chosen.Goals as goal

pub returns-then-steps-eq0-clause-is : goal.returns-then-steps-eq0-clause-is
returns-then-steps-eq0-clause-is c are = none_at_all c.args.world.now c.args.layout.now c.args.counts.now c.total-steps.result are c.total-steps.ensures c.if-steps-eq0.true

pub loop-task-init : goal.loop-task-init
loop-task-init c = (let e = c.place-place.ensures in omega (arith, e))

pub returns-then-place-count-clause-is : goal.returns-then-place-count-clause-is
returns-then-place-count-clause-is c are =
    let counts = c.args.counts.now in
    let t = c.loop-task.task in
    let less = c.loop-task-test.true in
    let tasks = c.task_count-task-end.ensures.says in
    let is = c.in-Some.ensures.lookup.3.1 0 in
    let within = c.if-place-count.true in
    let small : c.args.choice.number < 4294967296 = (let fits = c.well_formed in grind (arith, fits)) in
    chosen_is c.args.world.now c.args.layout.now counts c.total-steps.result c.args.choice.number t c.loop-task.place c.step_at.result are c.total-steps.ensures small
    (omega (arith, less, tasks)) (omega (arith, within, is)) c.loop-task.invariant c.step_at.ensures.is

pub loop-task-preserved : goal.loop-task-preserved
loop-task-preserved c =
    let counts = c.args.counts.now in
    let is = c.in-Some.ensures.lookup.3.1 0 in
    let more = sum_more counts c.loop-task.task c.in-Some.ensures.lookup.3.0 in
    let past = c.if-place-count.false in
    let at = c.loop-task.invariant in
    omega (arith, is, more, past, at)

pub returns-clause-is : goal.returns-clause-is
returns-clause-is c are =
    let some = c.if-steps-eq0.false in
    let past = c.loop-task-test.false in
    let tasks = c.task_count-task-end.ensures.says in
    absurd (never_missed c.args.world.now c.args.layout.now c.args.counts.now c.total-steps.result c.args.choice.number c.loop-task.task c.loop-task.place are c.total-steps.ensures (omega (arith, some)) (omega (arith, past, tasks)) c.loop-task.invariant)
