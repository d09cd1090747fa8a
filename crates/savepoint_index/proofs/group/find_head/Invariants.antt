use Rattle.savepoint_index.proofs.FindSteps.{AreOthers}
use Rattle.savepoint_index.proofs.group.find_head.Given as goal

abbrev pub invariant-loop : goal.invariant-loop
invariant-loop l = AreOthers l.group l.count l.counter l.rest l.bytes
