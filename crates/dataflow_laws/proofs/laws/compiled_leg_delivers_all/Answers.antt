use Rattle.dataflow_laws.proofs.Compiled.{compiled_leg_delivers_all}
use Rattle.dataflow_laws.proofs.laws.compiled_leg_delivers_all.Goals as goal

pub returns : goal.returns
returns c = compiled_leg_delivers_all
