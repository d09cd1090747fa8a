use Rattle.dataflow_laws.proofs.Compiled.{compiled_leg_delivers_at}
use Rattle.dataflow_laws.proofs.laws.compiled_leg_delivers_at.Goals as goal

pub returns : goal.returns
returns c = compiled_leg_delivers_at
