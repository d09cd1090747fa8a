use Rattle.stream_model.proofs.Snapshots.{due_rows_stay}
use Rattle.stream_model.proofs.laws.due_rows_stay.Goals as goal

pub returns : goal.returns
returns c = due_rows_stay
