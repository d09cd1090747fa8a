use Rattle.lineages.proofs.Gives.{tasks_are_leg}
use Rattle.lineages.proofs.laws.tasks_are_leg.Goals as goal

pub returns : goal.returns
returns c = tasks_are_leg
