use Rattle.dataflow_laws.proofs.Keeping.{compiled_savepoint_delivers}
use Rattle.dataflow_laws.proofs.laws.compiled_savepoint_delivers.Goals as goal

pub returns : goal.returns
returns c = compiled_savepoint_delivers
