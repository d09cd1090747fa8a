use Rattle.savepoint_codec.proofs.EntryFacts.{AreReadSoFar}
use Rattle.savepoint_codec.proofs.groups.read_entry_list.Given as goal

abbrev pub invariant-loop : goal.invariant-loop
invariant-loop l = AreReadSoFar l.kinds l.count l.counter l.last l.entries l.rest l.bytes
