use Rattle.dataflow_laws.proofs.Keeping.{savepoint_delivers}
use Rattle.dataflow_laws.proofs.laws.savepoint_delivers.Goals as goal

pub returns : goal.returns
returns c = savepoint_delivers
