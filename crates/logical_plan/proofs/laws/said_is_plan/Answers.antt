use Rattle.logical_plan.proofs.FitPlans.{said_is_plan}
use Rattle.logical_plan.proofs.laws.said_is_plan.Goals as goal

pub returns : goal.returns
returns c = said_is_plan
