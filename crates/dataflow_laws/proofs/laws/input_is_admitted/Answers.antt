use Rattle.dataflow_laws.proofs.Admitted.{input_is_admitted}
use Rattle.dataflow_laws.proofs.laws.input_is_admitted.Goals as goal

pub returns : goal.returns
returns c = input_is_admitted
