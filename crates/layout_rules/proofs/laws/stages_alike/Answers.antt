use Rattle.layout_rules.proofs.Groups.{stages_alike}
use Rattle.layout_rules.proofs.laws.stages_alike.Goals as goal

pub returns : goal.returns
returns c = stages_alike
