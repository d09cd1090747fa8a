use Rattle.plan_model.proofs.Bags.{aggregate_of-same}
use Rattle.plan_model.proofs.laws.aggregates_ignore_order.Goals as goal

pub returns : goal.returns
returns c = aggregate_of-same
