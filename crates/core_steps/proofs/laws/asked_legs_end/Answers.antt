use Rattle.core_steps.proofs.Delivered.{asked_legs_end}
use Rattle.core_steps.proofs.laws.asked_legs_end.Goals as goal

pub returns : goal.returns
returns c = asked_legs_end
