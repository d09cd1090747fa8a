use Rattle.lineages.proofs.Gives.{take_theirs}
use Rattle.lineages.proofs.laws.legs_take_their_savepoints.Goals as goal

pub returns : goal.returns
returns c = take_theirs
