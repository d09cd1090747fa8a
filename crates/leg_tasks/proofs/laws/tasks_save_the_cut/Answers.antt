use Rattle.leg_tasks.proofs.Snapshot.{tasks_save_the_cut}
use Rattle.leg_tasks.proofs.laws.tasks_save_the_cut.Goals as goal

pub returns : goal.returns
returns c = tasks_save_the_cut
