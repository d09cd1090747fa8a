use Rattle.input_flow.proofs.Cuts.{due_at_cut}
use Rattle.input_flow.proofs.laws.due_at_cut.Goals as goal

pub returns : goal.returns
returns c = due_at_cut
