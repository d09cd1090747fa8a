use Rattle.answers.proofs.Firsts.{values_meet_all}
use Rattle.answers.proofs.laws.values_meet_all.Goals as goal

pub returns : goal.returns
returns c = values_meet_all
