use Rattle.savepoint_bench.specs.Count.{IsDecoded}
use Rattle.savepoint_bench.proofs.decoded.Given as goal

abbrev pub invariant-loop : goal.invariant-loop
invariant-loop l = IsDecoded l.counter l.bytes l.count
