use Rattle.answers.proofs.Firsts.{failures_tell_the_fault}
use Rattle.answers.proofs.laws.failures_tell_the_fault.Goals as goal

pub returns : goal.returns
returns c = failures_tell_the_fault
