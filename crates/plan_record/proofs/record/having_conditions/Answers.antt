use Rattle.plan_record.specs.PlanRecord.{condition_cmp, having_condition}
use Rattle.plan_record.proofs.Ascending.{keys_more, one_more}
use Rattle.plan_record.proofs.record.having_conditions.Goals as goal

pub loop-condition-preserved : goal.loop-condition-preserved
loop-condition-preserved c = record {
  says = keys_more condition_cmp having_condition c.args.having.now c.loop-condition.condition-index _ _ _ _ c.loop-condition-test.true c.loop-condition.invariant.says c.condition_of_having.ensures c.in_ok-insert.ensures.keys;
  few = one_more _ _ _ _ c.in_ok-insert.ensures.len c.loop-condition.invariant.few;
}
