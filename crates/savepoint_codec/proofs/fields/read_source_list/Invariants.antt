use Rattle.byte_fields.proofs.Exact.{IsReadSoFar}
use Rattle.savepoint_codec.specs.Fields.{source_after}
use Rattle.savepoint_codec.proofs.fields.read_source_list.Given as goal

abbrev pub invariant-loop : goal.invariant-loop
invariant-loop l = IsReadSoFar source_after l.count l.counter l.sources.items l.rest l.bytes
