use Rattle.stream_model.proofs.Due.{due_stays}
use Rattle.stream_model.proofs.laws.due_stays.Goals as goal

pub returns : goal.returns
returns c = due_stays
