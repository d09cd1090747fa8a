use Rattle.dataflow_laws.proofs.Delivered.{leg_delivers}
use Rattle.dataflow_laws.proofs.laws.leg_delivers.Goals as goal

pub returns : goal.returns
returns c = leg_delivers
