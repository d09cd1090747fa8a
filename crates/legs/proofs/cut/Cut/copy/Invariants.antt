use Rattle.std.proofs.Common.{◌≡◌, ◌++◌, drop}
use Rattle.legs.proofs.cut.Cut.copy.Given as goal

abbrev pub invariant-loop-source : goal.invariant-loop-source
invariant-loop-source l = l.counts.items ++ drop l.source-index l.sources ≡ l.sources
