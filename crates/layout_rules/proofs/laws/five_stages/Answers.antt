use Rattle.layout_rules.proofs.FiveStages.{five_stages}
use Rattle.layout_rules.proofs.laws.five_stages.Goals as goal

pub returns : goal.returns
returns c = five_stages
