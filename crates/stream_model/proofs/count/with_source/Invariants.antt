use Rattle.std.proofs.Common.{◌≡◌, ◌+◌, ◌-◌, ◌^◌, min, length, take}
use Rattle.stream_model.specs.InputData.{records_in_source}
use Rattle.stream_model.proofs.count.with_source.Given as goal

abbrev pub invariant-loop-partition : goal.invariant-loop-partition
invariant-loop-partition l = l.total ≡ min (l.count + length (records_in_source (take l.partition-index l.partitions))) (2 ^ 64 - 1)
