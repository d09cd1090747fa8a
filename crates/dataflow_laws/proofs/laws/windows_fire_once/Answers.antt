use Rattle.dataflow_laws.proofs.Firing.{windows_fire_once}
use Rattle.dataflow_laws.proofs.laws.windows_fire_once.Goals as goal

pub returns : goal.returns
returns c = windows_fire_once
