use Rattle.plan_model.proofs.WindowLaw.{windows_are_those}
use Rattle.plan_model.proofs.laws.windows_are_those.Goals as goal

pub returns : goal.returns
returns c = windows_are_those
