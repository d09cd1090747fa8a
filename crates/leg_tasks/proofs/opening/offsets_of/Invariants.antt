use Rattle.std.proofs.Common.{◌≡◌, map, take}
use Rattle.leg_tasks.proofs.opening.offsets_of.Given as goal

abbrev pub invariant-loop-partition : goal.invariant-loop-partition
invariant-loop-partition l = l.offsets.items ≡ map (λ b. b.offset) (take l.partition-index l.partitions)
