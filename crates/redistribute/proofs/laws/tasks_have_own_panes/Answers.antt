use Rattle.redistribute.proofs.Opened.{tasks_have_own_panes}
use Rattle.redistribute.proofs.laws.tasks_have_own_panes.Goals as goal

pub returns : goal.returns
returns c = tasks_have_own_panes
