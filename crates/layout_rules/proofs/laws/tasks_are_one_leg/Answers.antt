use Rattle.layout_rules.proofs.Legs.{tasks_are_one_leg}
use Rattle.layout_rules.proofs.laws.tasks_are_one_leg.Goals as goal

pub returns : goal.returns
returns c = tasks_are_one_leg
