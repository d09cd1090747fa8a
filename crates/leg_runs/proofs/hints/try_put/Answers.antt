use Rattle.leg_runs.proofs.Tries.{by_step}
use Rattle.leg_runs.proofs.hints.try_put.Goals as goal

pub returns-clause-tries : goal.returns-clause-tries
returns-clause-tries c = by_step _ _ _ _ c.in_ok-try_step.ensures.tries c.if-not-branch.false
