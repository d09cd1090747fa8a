use Rattle.answers.proofs.Firsts.{first_unmet_is_first}
use Rattle.answers.proofs.laws.first_unmet_is_first.Goals as goal

pub returns : goal.returns
returns c = first_unmet_is_first
