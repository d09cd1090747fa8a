use Rattle.dataflow_laws.proofs.Worlds.{worlds_are_histories}
use Rattle.dataflow_laws.proofs.laws.worlds_are_histories.Goals as goal

pub returns : goal.returns
returns c = worlds_are_histories
