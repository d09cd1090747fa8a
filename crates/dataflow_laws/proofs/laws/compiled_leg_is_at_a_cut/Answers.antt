use Rattle.dataflow_laws.proofs.Moments.{compiled_leg_is_at_a_cut}
use Rattle.dataflow_laws.proofs.laws.compiled_leg_is_at_a_cut.Goals as goal

pub returns : goal.returns
returns c = compiled_leg_is_at_a_cut
