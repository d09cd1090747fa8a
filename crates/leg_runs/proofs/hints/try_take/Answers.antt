use Rattle.std.proofs.Common.{OnErr, subst}
use Rattle.core_steps.specs.World.{WorldData}
use Rattle.leg_runs.specs.Running.{Refuses}
use Rattle.leg_runs.proofs.Tries.{by_step}
use Rattle.leg_runs.proofs.hints.try_take.Goals as goal

pub returns-then-branch-clause-tries : goal.returns-then-branch-clause-tries
returns-then-branch-clause-tries c = by_step _ _ _ _ c.in_ok-try_step.ensures.tries c.if-branch.true

pub returns-clause-refuses : goal.returns-clause-refuses
returns-clause-refuses c = subst (λ (w : WorldData). OnErr c.try_put.result (Refuses w c.try_put.new.world)) (c.in_ok-try_step.ensures.tries.kept c.if-branch.false) c.try_put.ensures.refuses
