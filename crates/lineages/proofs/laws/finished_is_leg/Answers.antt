use Rattle.lineages.proofs.Gives.{finished_is_leg}
use Rattle.lineages.proofs.laws.finished_is_leg.Goals as goal

pub returns : goal.returns
returns c = finished_is_leg
