use Rattle.stream_model.proofs.Snapshots.{snapshot_goes_on}
use Rattle.stream_model.proofs.laws.snapshot_goes_on.Goals as goal

pub returns : goal.returns
returns c = snapshot_goes_on
