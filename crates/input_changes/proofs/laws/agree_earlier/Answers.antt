use Rattle.input_changes.proofs.Cuts.{agree_earlier}
use Rattle.input_changes.proofs.laws.agree_earlier.Goals as goal

pub returns : goal.returns
returns c = agree_earlier
