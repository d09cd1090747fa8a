use Rattle.dataflow_laws.proofs.Delivered.{so_far_delivers}
use Rattle.dataflow_laws.proofs.laws.so_far_delivers.Goals as goal

pub returns : goal.returns
returns c = so_far_delivers
