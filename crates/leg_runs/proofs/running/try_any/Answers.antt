use Rattle.std.proofs.Common.{OnErr, subst}
use Rattle.core_steps.specs.World.{WorldData}
use Rattle.leg_runs.specs.Running.{Refuses}
use Rattle.leg_runs.proofs.Tries.{on_err}
use Rattle.leg_runs.proofs.running.try_any.Goals as goal

pub returns-in_err-try_hint-clause-refuses : goal.returns-in_err-try_hint-clause-refuses
returns-in_err-try_hint-clause-refuses c =
    on_err c.from_residual.result (Refuses c.args.world.now c.try_hint.new.world) (subst (λ (w : WorldData). Refuses w c.try_hint.new.world) c.loop-hint.invariant c.in_err-try_hint.ensures.refuses)

pub returns-clause-refuses : goal.returns-clause-refuses
returns-clause-refuses c = subst (λ (w : WorldData). OnErr c.try_first.result (Refuses w c.try_first.new.world)) c.loop-hint.invariant c.try_first.ensures.refuses
