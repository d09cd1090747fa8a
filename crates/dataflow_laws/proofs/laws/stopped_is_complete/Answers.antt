use Rattle.dataflow_laws.proofs.Halting.{stopped_is_complete}
use Rattle.dataflow_laws.proofs.laws.stopped_is_complete.Goals as goal

pub returns : goal.returns
returns c = stopped_is_complete
