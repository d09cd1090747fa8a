use Rattle.dataflow_laws.proofs.Needs.{needs_step}
use Rattle.dataflow_laws.proofs.laws.needs_step.Goals as goal

pub returns : goal.returns
returns c = needs_step
