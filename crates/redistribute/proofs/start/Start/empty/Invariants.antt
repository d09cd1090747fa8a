use Rattle.std.proofs.Common.{◌≡◌, map, take}
use Rattle.redistribute.specs.Snapshots.{saved_source}
use Rattle.redistribute.proofs.start.Start.empty.Given as goal

abbrev pub invariant-loop-partitions : goal.invariant-loop-partitions
invariant-loop-partitions l = l.sources.items ≡ map (λ s. saved_source s (map (λ p. 0) s)) (take l.partitions-index l.partitions-items)
