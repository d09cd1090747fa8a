use Rattle.std.proofs.Common.{refl, arith}
use Rattle.dataflow_laws.specs.StepTask.{task_of}
use Rattle.leg_runs.proofs.Orders.{missed, is_task}
use Rattle.leg_runs.proofs.Tries.{by_any, no_step}
use Rattle.leg_runs.proofs.running.try_first.Goals as goal

pub returns-in_default-clause-tries : goal.returns-in_default-clause-tries
returns-in_default-clause-tries c =
    let none = missed _ c.step_from.result c.in_default.not-Some c.step_from.ensures in
    no_step _ c.requires.going
    (λ step can. none (task_of step) (omega arith) (is_task c.args.world.now c.args.layout.now step c.has_failed-failed.ensures.sound c.requires.same can) step refl can)

pub returns-clause-tries : goal.returns-clause-tries
returns-clause-tries c = by_any _ _ c.in_ok-make_found.ensures.moves
