use Rattle.dataflow_laws.proofs.Finishing.{legs_complete}
use Rattle.dataflow_laws.proofs.laws.legs_complete.Goals as goal

pub returns : goal.returns
returns c = legs_complete
