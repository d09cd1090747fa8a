use Rattle.dataflow_laws.proofs.Exact.{drained_is_exact}
use Rattle.dataflow_laws.proofs.laws.drained_is_exact.Goals as goal

pub returns : goal.returns
returns c = drained_is_exact
