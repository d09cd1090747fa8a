use Rattle.std.proofs.Common.{true, OnErr, ◌∙◌, subst}
use Rattle.core_steps.specs.World.{WorldData}
use Rattle.leg_runs.specs.Running.{IsTry, Refuses}
use Rattle.leg_runs.proofs.Tries.{by_step, on_err}
use Rattle.leg_runs.proofs.hints.try_again.Goals as goal

pub returns-then-branch-3-clause-tries : goal.returns-then-branch-3-clause-tries
returns-then-branch-3-clause-tries c =
    subst (λ (w : WorldData). IsTry w c.try_step.new.world true)
    (c.in_ok-try_next.ensures.tries.kept c.if-branch-2.false ∙ c.in_ok-try_put.ensures.tries.kept c.if-branch.false)
    (by_step _ _ _ _ c.in_ok-try_step.ensures.tries c.if-branch-3.true)

pub returns-in_err-try_next-clause-refuses : goal.returns-in_err-try_next-clause-refuses
returns-in_err-try_next-clause-refuses c =
    on_err c.from_residual-in_err-try_next.result (Refuses c.args.world.now c.try_next.new.world)
    (subst (λ (w : WorldData). Refuses w c.try_next.new.world) (c.in_ok-try_put.ensures.tries.kept c.if-branch.false) c.in_err-try_next.ensures.refuses)

pub returns-in_err-try_step-clause-refuses : goal.returns-in_err-try_step-clause-refuses
returns-in_err-try_step-clause-refuses c =
    on_err c.from_residual-in_err-try_step.result (Refuses c.args.world.now c.try_step.new.world)
    (subst (λ (w : WorldData). Refuses w c.try_step.new.world) (c.in_ok-try_next.ensures.tries.kept c.if-branch-2.false ∙ c.in_ok-try_put.ensures.tries.kept c.if-branch.false) c.in_err-try_step.ensures.refuses)

pub returns-in_default-clause-refuses : goal.returns-in_default-clause-refuses
returns-in_default-clause-refuses c =
    subst (λ (w : WorldData). OnErr c.try_task.result (Refuses w c.try_task.new.world))
    (c.in_ok-try_step.ensures.tries.kept c.if-branch-3.false ∙ c.in_ok-try_next.ensures.tries.kept c.if-branch-2.false ∙ c.in_ok-try_put.ensures.tries.kept c.if-branch.false) c.try_task.ensures.refuses
