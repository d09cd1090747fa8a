use Rattle.seal_laws.proofs.Histories.{ended_have_passed}
use Rattle.seal_laws.proofs.ended_have_passed.Goals as goal

pub returns : goal.returns
returns c = ended_have_passed
