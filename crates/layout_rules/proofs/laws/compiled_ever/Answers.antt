use Rattle.layout_rules.proofs.Once.{compiled_ever}
use Rattle.layout_rules.proofs.laws.compiled_ever.Goals as goal

pub returns : goal.returns
returns c = compiled_ever
