use Rattle.lineages.proofs.Exact.{exact}
use Rattle.lineages.proofs.laws.lineages_are_exact.Goals as goal

pub returns : goal.returns
returns c = exact c.lineages_over_inputs_are_exact-over.ensures
