use Rattle.answers.proofs.Firsts.{otherwise_is_the_test}
use Rattle.answers.proofs.laws.otherwise_is_the_test.Goals as goal

pub returns : goal.returns
returns c = otherwise_is_the_test
