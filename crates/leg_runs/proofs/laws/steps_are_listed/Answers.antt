use Rattle.leg_runs.proofs.Listing.{all_listed}
use Rattle.leg_runs.proofs.laws.steps_are_listed.Goals as goal

pub returns : goal.returns
returns c = all_listed
