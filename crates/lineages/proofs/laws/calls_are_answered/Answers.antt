use Rattle.lineages.proofs.Calls.{calls_are_answered}
use Rattle.lineages.proofs.laws.calls_are_answered.Goals as goal

pub returns : goal.returns
returns c = calls_are_answered
