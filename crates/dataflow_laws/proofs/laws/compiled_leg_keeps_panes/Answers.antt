use Rattle.dataflow_laws.proofs.Owned.{compiled_leg_keeps_panes}
use Rattle.dataflow_laws.proofs.laws.compiled_leg_keeps_panes.Goals as goal

pub returns : goal.returns
returns c = compiled_leg_keeps_panes
