use Rattle.layout_rules.proofs.Once.{compiled_once}
use Rattle.layout_rules.proofs.laws.compiled_once.Goals as goal

pub returns : goal.returns
returns c = compiled_once
