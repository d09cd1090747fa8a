use Rattle.stream_model.proofs.Snapshots.{carried_fires}
use Rattle.stream_model.proofs.laws.carried_fires.Goals as goal

pub returns : goal.returns
returns c = carried_fires
