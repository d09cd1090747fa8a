use Rattle.dataflow_laws.proofs.Going.{progress}
use Rattle.dataflow_laws.proofs.laws.progress.Goals as goal

pub returns : goal.returns
returns c = progress
