use Rattle.stream_model.proofs.Cuts.{plan_aggregate-between}
use Rattle.stream_model.proofs.laws.cuts_merge.Goals as goal

pub returns : goal.returns
returns c = plan_aggregate-between
