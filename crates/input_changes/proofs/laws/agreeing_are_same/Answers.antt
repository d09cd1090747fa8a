use Rattle.input_changes.proofs.Same.{agreeing_are_same}
use Rattle.input_changes.proofs.laws.agreeing_are_same.Goals as goal

pub returns : goal.returns
returns c = agreeing_are_same c.due_is_settled-settled.ensures
