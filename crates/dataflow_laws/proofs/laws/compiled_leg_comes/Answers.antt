use Rattle.dataflow_laws.proofs.Comings.{compiled_leg_comes}
use Rattle.dataflow_laws.proofs.laws.compiled_leg_comes.Goals as goal

pub returns : goal.returns
returns c = compiled_leg_comes
