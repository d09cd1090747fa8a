use Rattle.dataflow_laws.proofs.Counted.{kept_is_counted}
use Rattle.dataflow_laws.proofs.laws.kept_is_counted.Goals as goal

pub returns : goal.returns
returns c = kept_is_counted
