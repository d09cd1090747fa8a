use Rattle.input_flow.proofs.Orderly.{input_is_orderly}
use Rattle.input_flow.proofs.laws.input_is_orderly.Goals as goal

pub returns : goal.returns
returns c = input_is_orderly
