use Rattle.input_flow.proofs.Cuts.{records_at_cut}
use Rattle.input_flow.proofs.laws.records_at_cut.Goals as goal

pub returns : goal.returns
returns c = records_at_cut
