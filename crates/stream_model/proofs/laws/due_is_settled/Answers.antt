use Rattle.stream_model.proofs.Due.{due_is_settled}
use Rattle.stream_model.proofs.laws.due_is_settled.Goals as goal

pub returns : goal.returns
returns c = due_is_settled
