use Rattle.layout_rules.proofs.Facts.{stages_are_bounded}
use Rattle.layout_rules.proofs.laws.stages_are_bounded.Goals as goal

pub returns : goal.returns
returns c = stages_are_bounded
