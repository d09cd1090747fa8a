use Rattle.lineages.proofs.Gives.{tasks_give_up}
use Rattle.lineages.proofs.laws.tasks_give_up.Goals as goal

pub returns : goal.returns
returns c = tasks_give_up
