use Rattle.lineages.proofs.Steps.{each_step_falls}
use Rattle.lineages.proofs.laws.each_step_falls.Goals as goal

pub returns : goal.returns
returns c = each_step_falls
