use Rattle.std.proofs.Common.{inr}
use Rattle.commands.proofs.actions.run_parallel.Goals as goal

-- the texts are those of the two files
pub returns : goal.returns
returns g c = inr (c.deref.result.now, c.in_ok-input.input.items, c.job_run_parallel.ensures.answers)
