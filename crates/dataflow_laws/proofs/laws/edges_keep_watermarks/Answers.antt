use Rattle.dataflow_laws.proofs.Edges.{edges_keep_watermarks}
use Rattle.dataflow_laws.proofs.laws.edges_keep_watermarks.Goals as goal

pub returns : goal.returns
returns c = edges_keep_watermarks
