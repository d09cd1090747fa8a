use Rattle.savepoint_bench.specs.Count.{IsEncoded}
use Rattle.savepoint_bench.proofs.encoded.Given as goal

abbrev pub invariant-loop : goal.invariant-loop
invariant-loop l = IsEncoded l.counter l.bytes l.length
