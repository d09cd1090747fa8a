use Rattle.job_legs.proofs.Adding.{nothing_due_at_first}
use Rattle.job_legs.proofs.laws.nothing_due_at_first.Goals as goal

pub returns : goal.returns
returns c = nothing_due_at_first c.due_is_settled-settled.ensures
