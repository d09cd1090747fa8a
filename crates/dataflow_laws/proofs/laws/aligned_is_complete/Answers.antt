use Rattle.dataflow_laws.proofs.Completing.{aligned_is_complete}
use Rattle.dataflow_laws.proofs.laws.aligned_is_complete.Goals as goal

pub returns : goal.returns
returns c = aligned_is_complete
