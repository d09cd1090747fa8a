use Rattle.savepoint_index.proofs.Apart.{one_content}
use Rattle.savepoint_index.proofs.laws.one_content.Goals as goal

pub returns : goal.returns
returns c = one_content
