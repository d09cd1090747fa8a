use Rattle.std.proofs.Common.{◌∙◌, sym}
use Rattle.plan_scale.proofs.EvenScale.{even_is_scale}
use Rattle.plan_scale.proofs.even.ScaleScaleOfPlan.even.Goals as goal

pub returns-clause-belongs : goal.returns-clause-belongs
returns-clause-belongs c =
    let parallelism = sym c.is_parallelism.ensures.says ∙ c.if-not-is_parallelism.false in
    let few = sym c.has_few_tasks.ensures ∙ c.if-not-has_few_tasks.false in
    rw c.in_ok-scale.ensures (even_is_scale c.args.plan.now c.args.parallelism c.is_parallelism.ensures.sound parallelism few)
