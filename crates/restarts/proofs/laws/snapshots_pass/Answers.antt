use Rattle.restarts.proofs.Passing.{snapshots_pass}
use Rattle.restarts.proofs.laws.snapshots_pass.Goals as goal

pub returns : goal.returns
returns c = snapshots_pass c.ascending_is_in_order-uids.ensures
