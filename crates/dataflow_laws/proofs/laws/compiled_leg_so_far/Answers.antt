use Rattle.dataflow_laws.proofs.Compiled.{compiled_leg_so_far}
use Rattle.dataflow_laws.proofs.laws.compiled_leg_so_far.Goals as goal

pub returns : goal.returns
returns c = compiled_leg_so_far
