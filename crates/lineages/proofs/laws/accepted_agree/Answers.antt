use Rattle.lineages.proofs.Changes.{accepted_agree}
use Rattle.lineages.proofs.laws.accepted_agree.Goals as goal

pub returns : goal.returns
returns c = accepted_agree c.entries_keep_the_cut-keep.ensures c.snapshots_restart-restart.ensures c.one_content-content.ensures
