use Rattle.commands.proofs.Plans.{of_text}
use Rattle.commands.proofs.importing.plan_at.Goals as goal

pub returns : goal.returns
returns g c = of_text c.deref.result.now c.plan_of.result c.plan_of.ensures
