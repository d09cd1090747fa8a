use Rattle.input_changes.proofs.Cuts.{entries_keep_the_cut}
use Rattle.input_changes.proofs.laws.entries_keep_the_cut.Goals as goal

pub returns : goal.returns
returns c = entries_keep_the_cut
