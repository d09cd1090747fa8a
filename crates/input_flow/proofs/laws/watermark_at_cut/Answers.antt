use Rattle.input_flow.proofs.Cuts.{watermark_at_cut}
use Rattle.input_flow.proofs.laws.watermark_at_cut.Goals as goal

pub returns : goal.returns
returns c = watermark_at_cut
