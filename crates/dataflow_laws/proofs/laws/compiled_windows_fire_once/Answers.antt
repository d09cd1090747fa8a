use Rattle.dataflow_laws.proofs.Moments.{compiled_windows_fire_once}
use Rattle.dataflow_laws.proofs.laws.compiled_windows_fire_once.Goals as goal

pub returns : goal.returns
returns c = compiled_windows_fire_once
