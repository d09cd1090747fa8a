use Rattle.std.proofs.Common.{◌≡◌, map, take}
use Rattle.leg_tasks.proofs.opening.marks_of.Given as goal

abbrev pub invariant-loop-partition : goal.invariant-loop-partition
invariant-loop-partition l = l.marks.items ≡ map (λ b. b.watermark) (take l.partition-index l.partitions)
