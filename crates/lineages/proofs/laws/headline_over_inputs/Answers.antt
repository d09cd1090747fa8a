use Rattle.lineages.proofs.Exact.{headline_over_inputs}
use Rattle.lineages.proofs.laws.headline_over_inputs.Goals as goal

pub returns : goal.returns
returns c = headline_over_inputs c.lineages_over_inputs_are_exact-exact.ensures
