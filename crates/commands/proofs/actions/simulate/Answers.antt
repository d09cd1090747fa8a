use Rattle.std.proofs.Common.{inr}
use Rattle.commands.proofs.actions.simulate.Goals as goal

-- the texts are those of the four files
pub returns : goal.returns
returns g c = inr (c.deref.result.now, c.in_ok-input.input.items, c.deref-2.result.now, c.deref-3.result.now, c.job_simulate.ensures.answers)
