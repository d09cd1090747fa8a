use Rattle.std.proofs.Common.{inr}
use Rattle.commands.proofs.actions.layout.Goals as goal

-- the texts are those of the two files
pub returns : goal.returns
returns g c = inr (c.deref.result.now, c.deref-2.result.now, c.job_layout.ensures.answers)
