use Rattle.dataflow_laws.proofs.Lineage.{legs_are_exact}
use Rattle.dataflow_laws.proofs.laws.legs_are_exact.Goals as goal

pub returns : goal.returns
returns c = legs_are_exact
