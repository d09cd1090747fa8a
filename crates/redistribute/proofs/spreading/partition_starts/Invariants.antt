use Rattle.std.proofs.Common.{◌≡◌, map, take}
use Rattle.redistribute.specs.Parts.{partition_start}
use Rattle.redistribute.proofs.spreading.partition_starts.Given as goal

abbrev pub invariant-loop-partition : goal.invariant-loop-partition
invariant-loop-partition l = l.starts.items ≡ map (partition_start l.start l.source) (take l.partition-index l.partitions)
