use Rattle.lineages.proofs.Calls.{calls_are_exact}
use Rattle.lineages.proofs.laws.calls_are_exact.Goals as goal

pub returns : goal.returns
returns c = calls_are_exact c.calls_over_inputs_are_exact-over.ensures
