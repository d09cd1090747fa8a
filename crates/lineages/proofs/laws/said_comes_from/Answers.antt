use Rattle.lineages.proofs.Calls.{said_comes_from}
use Rattle.lineages.proofs.laws.said_comes_from.Goals as goal

pub returns : goal.returns
returns c = said_comes_from
