use Rattle.dataflow_laws.proofs.Exact.{leg_reaches_its_cut}
use Rattle.dataflow_laws.proofs.laws.leg_reaches_its_cut.Goals as goal

pub returns : goal.returns
returns c = leg_reaches_its_cut
