use Rattle.dataflow_laws.proofs.Counts.{takes_no_more}
use Rattle.dataflow_laws.proofs.laws.takes_no_more.Goals as goal

pub returns : goal.returns
returns c = takes_no_more
