use Rattle.lineages.proofs.Moments.{so_far}
use Rattle.lineages.proofs.laws.each_moment_of_a_leg.Goals as goal

pub returns : goal.returns
returns c = λ p i s saves stop w has way. so_far p i s saves stop w way has
