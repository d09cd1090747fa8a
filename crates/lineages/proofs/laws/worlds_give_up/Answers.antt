use Rattle.lineages.proofs.Gives.{worlds_give_up}
use Rattle.lineages.proofs.laws.worlds_give_up.Goals as goal

pub returns : goal.returns
returns c = worlds_give_up
