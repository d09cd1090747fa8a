use Rattle.byte_fields.proofs.Exact.{IsReadSoFar}
use Rattle.savepoint_codec.specs.Fields.{kind_field}
use Rattle.savepoint_codec.proofs.fields.read_kind_list.Given as goal

abbrev pub invariant-loop : goal.invariant-loop
invariant-loop l = IsReadSoFar (λ _. kind_field) l.count l.counter l.kinds.items l.rest l.bytes
