use Rattle.restarts.proofs.Savepoints.{snapshots_are_savepoints}
use Rattle.restarts.proofs.laws.snapshots_are_savepoints.Goals as goal

pub returns : goal.returns
returns c = snapshots_are_savepoints c.ascending_is_in_order-uids.ensures
