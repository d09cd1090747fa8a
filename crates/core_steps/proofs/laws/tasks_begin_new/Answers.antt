use Rattle.core_steps.proofs.Legs.{are_new_tasks}
use Rattle.core_steps.proofs.laws.tasks_begin_new.Goals as goal

pub returns : goal.returns
returns c = are_new_tasks
