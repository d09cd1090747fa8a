use Rattle.core_steps.proofs.Ending.{world_has_ended}
use Rattle.core_steps.proofs.laws.world_has_ended.Goals as goal

pub returns : goal.returns
returns c = world_has_ended
