use Rattle.dataflow_laws.proofs.Examples.{small_leg}
use Rattle.dataflow_laws.proofs.laws.small_leg.Goals as goal

pub returns : goal.returns
returns c = small_leg
