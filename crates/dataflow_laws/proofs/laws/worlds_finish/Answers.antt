use Rattle.dataflow_laws.proofs.Finishing.{worlds_finish}
use Rattle.dataflow_laws.proofs.laws.worlds_finish.Goals as goal

pub returns : goal.returns
returns c = worlds_finish
