use Rattle.dataflow_laws.proofs.Delivered.{legs_deliver_all}
use Rattle.dataflow_laws.proofs.laws.legs_deliver_all.Goals as goal

pub returns : goal.returns
returns c = legs_deliver_all
