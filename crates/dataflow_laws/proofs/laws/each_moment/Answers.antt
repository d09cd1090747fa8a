use Rattle.dataflow_laws.proofs.Exact.{each_moment}
use Rattle.dataflow_laws.proofs.laws.each_moment.Goals as goal

pub returns : goal.returns
returns c = each_moment
