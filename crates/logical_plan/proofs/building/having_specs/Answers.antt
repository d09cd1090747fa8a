use Rattle.std.proofs.Common.{pos}
use Rattle.std.proofs.lemmas.List.Sums.{AllPass-from_list_all}
use Rattle.json_parts.specs.Tests.{is_place}
use Rattle.logical_plan.specs.declared.text.HavingText.{HavingText}
use Rattle.plan_model.specs.declared.limits.TheConstants.{MOST_AGGREGATES}
use Rattle.logical_plan.proofs.building.having_specs.Goals as goal

pub having_spec-requires : goal.having_spec-requires
having_spec-requires c =
    AllPass-from_list_all (λ (h : HavingText). is_place (pos MOST_AGGREGATES) h.aggregate) c.args.having.now c.requires c.loop-condition.condition-index _ c.loop-condition-test.true
