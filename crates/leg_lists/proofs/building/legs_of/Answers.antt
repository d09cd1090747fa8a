use Rattle.std.proofs.Common.{arith}
use Rattle.std.proofs.lemmas.Grind.{common_steps}
use Rattle.std.proofs.lemmas.List.Elements.{All-push}
use Rattle.layout_rules.specs.Scale.{IsScale}
use Rattle.legs.specs.declared.leg.LegSpec.{LegSpec}
use Rattle.leg_lists.proofs.building.legs_of.Goals as goal

pub loop-text-preserved : goal.loop-text-preserved
loop-text-preserved c = record {
  reads = grind (arith, common_steps);
  belong = rw c.in_ok-push.ensures.items (All-push (λ (leg : LegSpec). IsScale c.args.plan.now leg.scale) _ _ c.loop-text.invariant.belong c.in_ok-scale.ensures.belongs);
}
