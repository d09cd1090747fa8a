use Rattle.task_setups.proofs.Standing.{every_task_stands}
use Rattle.task_setups.proofs.laws.every_task_stands.Goals as goal

pub returns : goal.returns
returns c = every_task_stands
