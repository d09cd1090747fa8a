use Rattle.redistribute.proofs.Opened.{tasks_open}
use Rattle.redistribute.proofs.laws.tasks_open.Goals as goal

pub returns : goal.returns
returns c = tasks_open
