use Rattle.dataflow_laws.proofs.Compiled.{compiled_leg_delivers}
use Rattle.dataflow_laws.proofs.laws.compiled_leg_delivers.Goals as goal

pub returns : goal.returns
returns c = compiled_leg_delivers
