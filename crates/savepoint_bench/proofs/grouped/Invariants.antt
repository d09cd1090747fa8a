use Rattle.savepoint_bench.specs.Count.{IsGrouped}
use Rattle.savepoint_bench.proofs.grouped.Given as goal

abbrev pub invariant-loop : goal.invariant-loop
invariant-loop l = IsGrouped l.counter l.bytes l.group l.count
