use Rattle.restarts.proofs.Accepted.{accepted_have_groups}
use Rattle.restarts.proofs.laws.accepted_have_groups.Goals as goal

pub returns : goal.returns
returns c = accepted_have_groups
