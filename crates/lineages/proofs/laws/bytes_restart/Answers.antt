use Rattle.lineages.proofs.Exact.{bytes_restart}
use Rattle.lineages.proofs.laws.bytes_restart.Goals as goal

pub returns : goal.returns
returns c = bytes_restart c.snapshots_restart-restart.ensures c.one_content-content.ensures
