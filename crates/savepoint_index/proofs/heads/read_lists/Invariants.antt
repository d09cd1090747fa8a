use Rattle.savepoint_index.proofs.ListSteps.{AreRead}
use Rattle.savepoint_index.proofs.heads.read_lists.Given as goal

abbrev pub invariant-loop-head : goal.invariant-loop-head
invariant-loop-head l = AreRead l.kinds l.heads l.head-index l.groups.items l.rest l.bytes
