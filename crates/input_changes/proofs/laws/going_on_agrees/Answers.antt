use Rattle.input_changes.proofs.Cuts.{going_on_agrees}
use Rattle.input_changes.proofs.laws.going_on_agrees.Goals as goal

pub returns : goal.returns
returns c = going_on_agrees
