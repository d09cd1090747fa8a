use Rattle.std.proofs.Common.{ap, ◌∙◌}
use Rattle.plan_record.specs.PlanRecord.{condition_cmp, filter_condition}
use Rattle.plan_record.proofs.Ascending.{keys_more, one_more}
use Rattle.plan_record.proofs.record.filter_conditions.Goals as goal

pub loop-filter-preserved : goal.loop-filter-preserved
loop-filter-preserved c = record {
  says = keys_more condition_cmp filter_condition c.args.filters.now c.loop-filter.filter-index _ _ _ _ c.loop-filter-test.true c.loop-filter.invariant.says (c.condition_of_filter.ensures ∙ ap filter_condition c.filter-item.is) c.in_ok-insert.ensures.keys;
  few = one_more _ _ _ _ c.in_ok-insert.ensures.len c.loop-filter.invariant.few;
}
