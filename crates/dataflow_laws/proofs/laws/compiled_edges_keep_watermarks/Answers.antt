use Rattle.dataflow_laws.proofs.Moments.{compiled_edges_keep_watermarks}
use Rattle.dataflow_laws.proofs.laws.compiled_edges_keep_watermarks.Goals as goal

pub returns : goal.returns
returns c = compiled_edges_keep_watermarks
