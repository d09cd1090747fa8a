use Rattle.dataflow_laws.proofs.Owned.{compiled_leg_keeps_panes_at}
use Rattle.dataflow_laws.proofs.laws.compiled_leg_keeps_panes_at.Goals as goal

pub returns : goal.returns
returns c = compiled_leg_keeps_panes_at
