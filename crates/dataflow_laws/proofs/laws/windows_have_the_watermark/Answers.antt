use Rattle.dataflow_laws.proofs.Edges.{windows_have_the_watermark}
use Rattle.dataflow_laws.proofs.laws.windows_have_the_watermark.Goals as goal

pub returns : goal.returns
returns c = windows_have_the_watermark
