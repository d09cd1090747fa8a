use Rattle.std.proofs.Common.{◌≡◌, map, take}
use Rattle.redistribute.specs.Snapshots.{saved_partition}
use Rattle.redistribute.proofs.start.unread_source.Given as goal

abbrev pub invariant-loop-entries : goal.invariant-loop-entries
invariant-loop-entries l = l.saved.items ≡ map (λ p. saved_partition p 0) (take l.entries-index l.partitions)
