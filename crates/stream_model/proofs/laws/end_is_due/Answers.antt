use Rattle.stream_model.proofs.Snapshots.{end_is_due}
use Rattle.stream_model.proofs.laws.end_is_due.Goals as goal

pub returns : goal.returns
returns c = end_is_due
