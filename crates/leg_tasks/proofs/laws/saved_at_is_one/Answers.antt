use Rattle.leg_tasks.proofs.OneOfACut.{saved_at_is_one}
use Rattle.leg_tasks.proofs.laws.saved_at_is_one.Goals as goal

pub returns : goal.returns
returns c = saved_at_is_one c.same_panes_same_savepoint-same.ensures
