use Rattle.stream_model.proofs.Snapshots.{nothing_at_first}
use Rattle.stream_model.proofs.laws.nothing_at_first.Goals as goal

pub returns : goal.returns
returns c = nothing_at_first
