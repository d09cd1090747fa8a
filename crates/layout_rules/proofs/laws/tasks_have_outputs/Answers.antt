use Rattle.layout_rules.proofs.Outputs.{tasks_have_outputs}
use Rattle.layout_rules.proofs.laws.tasks_have_outputs.Goals as goal

pub returns : goal.returns
returns c = tasks_have_outputs
