use Rattle.dataflow_laws.proofs.Worlds.{rings_are_bounded}
use Rattle.dataflow_laws.proofs.laws.rings_are_bounded.Goals as goal

pub returns : goal.returns
returns c = rings_are_bounded
