use Rattle.std.proofs.Common.{◌∙◌, sym}
use Rattle.plan_scale.specs.Requirements.{has_capacity}
use Rattle.plan_scale.proofs.Sound.{is_scale}
use Rattle.plan_scale.proofs.reading.scale_from.Goals as goal

pub returns-clause-belongs : goal.returns-clause-belongs
unfolding has_capacity
returns-clause-belongs c =
    let parallelism = sym c.has_parallelism.ensures.says ∙ c.if-not-has_parallelism.false in
    let capacity = sym c.has_capacity.ensures ∙ c.if-not-has_capacity.false in
    let few = sym c.has_few_tasks.ensures ∙ c.if-not-has_few_tasks.false in
    rw c.in_ok-scale.ensures (is_scale c.args.plan.now c.args.text.now c.has_parallelism.ensures.sound parallelism capacity few)
