use Rattle.lineages.proofs.Exact.{one_savepoint}
use Rattle.lineages.proofs.laws.one_savepoint.Goals as goal

pub returns : goal.returns
returns c = one_savepoint c.saved_at_is_one-one.ensures
