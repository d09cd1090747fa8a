use Rattle.dataflow_laws.proofs.Falling.{falls}
use Rattle.dataflow_laws.proofs.laws.falls.Goals as goal

pub returns : goal.returns
returns c = falls
