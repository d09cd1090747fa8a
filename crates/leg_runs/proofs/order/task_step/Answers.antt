use Rattle.leg_runs.proofs.Orders.{nothing, none_of, missed}
use Rattle.leg_runs.proofs.order.task_step.Goals as goal

pub returns : goal.returns
returns c =
    none_of _ c.enabled-5.result
    (nothing c.args.world.now c.args.task
    (missed _ c.enabled.result c.in_default.not-Some c.enabled.ensures)
    (missed _ c.read_step.result c.in_default-read_step.not-Some c.read_step.ensures)
    (missed _ c.enabled-2.result c.in_default-enabled.not-Some c.enabled-2.ensures)
    (missed _ c.enabled-3.result c.in_default-enabled-2.not-Some c.enabled-3.ensures)
    (missed _ c.enabled-4.result c.in_default-enabled-3.not-Some c.enabled-4.ensures)
    (missed _ c.take_step.result c.in_default-take_step.not-Some c.take_step.ensures))
    c.enabled-5.ensures
