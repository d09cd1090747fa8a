use Rattle.layout_rules.proofs.Shapes.{compiled_is_layout}
use Rattle.layout_rules.proofs.laws.compiled_is_layout.Goals as goal

pub returns : goal.returns
returns c = compiled_is_layout
