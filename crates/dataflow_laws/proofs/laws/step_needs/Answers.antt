use Rattle.dataflow_laws.proofs.Needs.{step_needs}
use Rattle.dataflow_laws.proofs.laws.step_needs.Goals as goal

pub returns : goal.returns
returns c = step_needs
