use Rattle.layout_rules.proofs.Groups.{one_more}
use Rattle.layout_rules.proofs.laws.one_more.Goals as goal

pub returns : goal.returns
returns c = one_more
