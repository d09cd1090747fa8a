use Rattle.byte_fields.proofs.Exact.{IsReadSoFar}
use Rattle.savepoint_codec.specs.Fields.{group_after}
use Rattle.savepoint_codec.proofs.groups.read_group_list.Given as goal

abbrev pub invariant-loop : goal.invariant-loop
invariant-loop l = IsReadSoFar (group_after l.max l.kinds) l.count l.counter l.groups.items l.rest l.bytes
