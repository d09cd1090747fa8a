use Rattle.layout_rules.proofs.Counted.{tasks_counted}
use Rattle.layout_rules.proofs.laws.tasks_counted.Goals as goal

pub returns : goal.returns
returns c = tasks_counted
