use Rattle.std.proofs.Common.{inr}
use Rattle.commands.proofs.actions.show.Goals as goal

-- the bytes are those of the file
pub returns : goal.returns
returns g c = inr (c.deref.result.now, c.job_show.ensures.answers)
