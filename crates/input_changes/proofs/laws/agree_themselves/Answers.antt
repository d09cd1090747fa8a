use Rattle.input_changes.proofs.Cuts.{agree_themselves}
use Rattle.input_changes.proofs.laws.agree_themselves.Goals as goal

pub returns : goal.returns
returns c = agree_themselves
