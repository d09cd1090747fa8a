use Rattle.plan_model.proofs.Aggs.{aggregate_of-append}
use Rattle.plan_model.proofs.laws.aggregates_merge.Goals as goal

pub returns : goal.returns
returns c = aggregate_of-append
