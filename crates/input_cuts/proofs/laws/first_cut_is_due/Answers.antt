use Rattle.input_cuts.proofs.Cuts.{first_cut_is_due}
use Rattle.input_cuts.proofs.laws.first_cut_is_due.Goals as goal

pub returns : goal.returns
returns c = first_cut_is_due
