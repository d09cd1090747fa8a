use Rattle.std.proofs.Common.{refl}
use Rattle.savepoint_codec.specs.Fields.{partition_field}
use Rattle.savepoint_codec.proofs.Spelled.{spelled_more}
use Rattle.savepoint_codec.proofs.encoding.put_partition_list.Goals as goal

pub loop-partition-preserved : goal.loop-partition-preserved
loop-partition-preserved c =
    spelled_more partition_field.spell c.args.partitions.now c.loop-partition.partition-index _ _ _ _ _ c.loop-partition-test.true refl c.loop-partition.invariant c.in_ok-put_partition.ensures
