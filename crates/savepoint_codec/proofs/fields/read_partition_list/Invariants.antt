use Rattle.byte_fields.proofs.Exact.{IsReadSoFar}
use Rattle.savepoint_codec.specs.Fields.{partition_field}
use Rattle.savepoint_codec.proofs.fields.read_partition_list.Given as goal

abbrev pub invariant-loop : goal.invariant-loop
invariant-loop l = IsReadSoFar (λ _. partition_field) l.count l.counter l.partitions.items l.rest l.bytes
