use Rattle.dataflow_laws.proofs.Admission.{rings_are_admitted}
use Rattle.dataflow_laws.proofs.laws.rings_are_admitted.Goals as goal

pub returns : goal.returns
returns c = rings_are_admitted
