use Rattle.input_flow.proofs.Cuts.{snapshot_at_cut}
use Rattle.input_flow.proofs.laws.snapshot_at_cut.Goals as goal

pub returns : goal.returns
returns c = snapshot_at_cut
