use Rattle.dataflow_laws.proofs.Savepoints.{savepoint_is_exact}
use Rattle.dataflow_laws.proofs.laws.savepoint_is_exact.Goals as goal

pub returns : goal.returns
returns c = savepoint_is_exact
