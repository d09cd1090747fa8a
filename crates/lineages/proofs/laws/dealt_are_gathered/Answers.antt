use Rattle.lineages.proofs.Dealing.{dealt_are_gathered}
use Rattle.lineages.proofs.laws.dealt_are_gathered.Goals as goal

pub returns : goal.returns
returns c = dealt_are_gathered c.each_partition_once-once.ensures c.same_panes_same_savepoint-same.ensures
