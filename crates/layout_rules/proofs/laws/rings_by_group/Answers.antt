use Rattle.layout_rules.proofs.Outputs.{rings_by_group}
use Rattle.layout_rules.proofs.laws.rings_by_group.Goals as goal

pub returns : goal.returns
returns c = rings_by_group
