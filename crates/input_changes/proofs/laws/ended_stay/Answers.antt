use Rattle.input_changes.proofs.Ends.{ended_stay}
use Rattle.input_changes.proofs.laws.ended_stay.Goals as goal

pub returns : goal.returns
returns c = ended_stay
