use Rattle.plan_record.proofs.InOrder.{ascending_is_in_order}
use Rattle.plan_record.proofs.laws.ascending_is_in_order.Goals as goal

pub returns : goal.returns
returns c = ascending_is_in_order
