use Rattle.input_parts.proofs.Own.{parts_are_inputs}
use Rattle.input_parts.proofs.laws.parts_are_inputs.Goals as goal

pub returns : goal.returns
returns c = parts_are_inputs
