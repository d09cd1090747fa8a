use Rattle.savepoint_index.proofs.Apart.{no_prefix}
use Rattle.savepoint_index.proofs.laws.no_prefix.Goals as goal

pub returns : goal.returns
returns c = no_prefix
