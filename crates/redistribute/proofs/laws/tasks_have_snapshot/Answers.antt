use Rattle.redistribute.proofs.Opened.{tasks_have_snapshot}
use Rattle.redistribute.proofs.laws.tasks_have_snapshot.Goals as goal

pub returns : goal.returns
returns c = tasks_have_snapshot
