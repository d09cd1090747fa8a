use Rattle.dataflow_laws.proofs.Worlds.{moves_keep_histories}
use Rattle.dataflow_laws.proofs.laws.moves_keep_histories.Goals as goal

pub returns : goal.returns
returns c = moves_keep_histories
