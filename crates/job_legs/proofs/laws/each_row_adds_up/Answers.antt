use Rattle.job_legs.proofs.Adding.{each_row_adds_up}
use Rattle.job_legs.proofs.laws.each_row_adds_up.Goals as goal

pub returns : goal.returns
returns c = each_row_adds_up c.due_rows_stay-stay.ensures
