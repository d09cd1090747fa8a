use Rattle.byte_fields.proofs.Exact.{IsReadSoFar}
use Rattle.savepoint_index.specs.Index.{head_field}
use Rattle.savepoint_index.proofs.heads.read_heads.Given as goal

abbrev pub invariant-loop : goal.invariant-loop
invariant-loop l = IsReadSoFar (head_field l.max l.size l.first) l.count l.counter l.heads.items l.rest l.bytes
