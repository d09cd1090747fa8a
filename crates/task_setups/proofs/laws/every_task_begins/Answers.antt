use Rattle.task_setups.proofs.Beginning.{every_task_begins}
use Rattle.task_setups.proofs.laws.every_task_begins.Goals as goal

pub returns : goal.returns
returns c = every_task_begins
