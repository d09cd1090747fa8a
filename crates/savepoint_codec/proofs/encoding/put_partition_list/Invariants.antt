use Rattle.std.proofs.Common.{◌≡◌, ◌++◌, take}
use Rattle.std.specs.List.{flat_map}
use Rattle.savepoint_codec.specs.Fields.{partition_field}
use Rattle.savepoint_codec.proofs.encoding.put_partition_list.Given as goal

abbrev pub invariant-loop-partition : goal.invariant-loop-partition
invariant-loop-partition l = l.out.items ≡ l.fn.out.items ++ flat_map partition_field.spell (take l.partition-index l.partitions)
