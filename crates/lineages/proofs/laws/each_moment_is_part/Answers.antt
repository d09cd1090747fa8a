use Rattle.lineages.proofs.Moments.{one_input_is_part}
use Rattle.lineages.proofs.laws.each_moment_is_part.Goals as goal

pub returns : goal.returns
returns c = one_input_is_part c.each_moment_over_inputs-over.ensures
