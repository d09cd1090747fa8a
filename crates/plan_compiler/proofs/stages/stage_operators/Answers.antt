use Rattle.std.proofs.Common.{◌++◌, ap, sym, ◌∙◌}
use Rattle.layout_rules.specs.Rules.{stage_operators}
use Rattle.plan_compiler.proofs.Staged.{begun, after_first, stage_goes_on}
use Rattle.plan_compiler.proofs.stages.stage_operators.Goals as goal

pub loop-rest-preserved : goal.loop-rest-preserved
loop-rest-preserved c =
    ap (λ g. c.loop-rest.stages.items ++ begun g (stage_operators c.args.plan.now c.args.scale.now (after_first c.loop-rest.rest.now))) c.in_ok-push.ensures.items
    ∙ stage_goes_on c.args.plan.now c.args.scale.now c.loop-rest.stages.items c.loop-rest.stage.items c.loop-rest.rest.now _ c.in-len1-up.len_at_least (sym c.continues.ensures ∙ c.if-not-continues.false)
    ∙ c.loop-rest.invariant
