use Rattle.dataflow_laws.proofs.Exact.{leg_is_exact}
use Rattle.dataflow_laws.proofs.laws.leg_is_exact.Goals as goal

pub returns : goal.returns
returns c = leg_is_exact
