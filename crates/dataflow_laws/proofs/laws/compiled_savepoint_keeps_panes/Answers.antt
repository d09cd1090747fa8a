use Rattle.dataflow_laws.proofs.KeptPanes.{compiled_savepoint_keeps_panes}
use Rattle.dataflow_laws.proofs.laws.compiled_savepoint_keeps_panes.Goals as goal

pub returns : goal.returns
returns c = compiled_savepoint_keeps_panes
