use Rattle.task_setups.proofs.Picked.{one_more}
use Rattle.task_setups.proofs.filters.filters_of.Goals as goal

pub loop-operator-preserved : goal.loop-operator-preserved
loop-operator-preserved c = one_more c.args.plan.now c.args.operators.now c.loop-operator.operator-index _ c.loop-operator.filters.items c.push_filter.new.filters.items c.loop-operator-test.true c.loop-operator.invariant c.in_ok-push_filter.ensures
