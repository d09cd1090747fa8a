use Rattle.std.proofs.Common.{◌≡◌, ◌+◌, ◌-◌, ◌^◌, min, length, take}
use Rattle.text_warnings.specs.Plain.{entries_in}
use Rattle.text_warnings.proofs.plain.with_partitions.Given as goal

abbrev pub invariant-loop-partition : goal.invariant-loop-partition
invariant-loop-partition l = l.total ≡ min (l.count + length (entries_in (take l.partition-index l.partitions))) (2 ^ 64 - 1)
