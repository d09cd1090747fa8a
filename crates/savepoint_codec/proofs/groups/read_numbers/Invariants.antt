use Rattle.savepoint_codec.proofs.NumbersFacts.{IsReadInto}
use Rattle.savepoint_codec.proofs.groups.read_numbers.Given as goal

abbrev pub invariant-loop-i : goal.invariant-loop-i
invariant-loop-i l = IsReadInto l.kinds l.count l.i l.numbers l.rest l.bytes
