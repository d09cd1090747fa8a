use Rattle.lineages.proofs.Exact.{headline}
use Rattle.lineages.proofs.laws.headline.Goals as goal

pub returns : goal.returns
returns c = headline c.headline_over_inputs-over.ensures
