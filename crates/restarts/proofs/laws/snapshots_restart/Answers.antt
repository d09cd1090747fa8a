use Rattle.restarts.proofs.Restarting.{snapshots_restart}
use Rattle.restarts.proofs.laws.snapshots_restart.Goals as goal

pub returns : goal.returns
returns c = snapshots_restart c.ascending_is_in_order-uids.ensures
