use Rattle.dataflow_laws.proofs.Lineage.{leg_between_is_exact}
use Rattle.dataflow_laws.proofs.laws.leg_between_is_exact.Goals as goal

pub returns : goal.returns
returns c = leg_between_is_exact
