use Rattle.job_legs.proofs.Adding.{rows_add_up}
use Rattle.job_legs.proofs.laws.rows_add_up.Goals as goal

pub returns : goal.returns
returns c = rows_add_up c.each_row_adds_up-each.ensures
