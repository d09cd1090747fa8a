use Rattle.lineages.proofs.Dealing.{gathered_again}
use Rattle.lineages.proofs.laws.savepoints_are_gathered_again.Goals as goal

pub returns : goal.returns
returns c = gathered_again c.each_partition_once-once.ensures c.same_panes_same_savepoint-same.ensures c.ascending_is_in_order-uids.ensures c.accepted_have_groups-groups.ensures
