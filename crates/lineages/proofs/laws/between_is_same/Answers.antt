use Rattle.lineages.proofs.Changes.{between_is_same}
use Rattle.lineages.proofs.laws.between_is_same.Goals as goal

pub returns : goal.returns
returns c = between_is_same c.agree_earlier-earlier.ensures c.agreeing_are_same-agreeing.ensures
