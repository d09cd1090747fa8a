-- How far partitions were read.
use Rattle.std.specs.Prelude.{◌+◌, ◌-◌, ◌^◌, min, take, length, List}
use Rattle.std.specs.Int.{int_min}
use Rattle.savepoint_codec.specs.declared.savepoint.SavedPartition.{SavedPartition}
use Rattle.stream_model.specs.declared.entry.Marked.{Marked}
use Rattle.stream_model.specs.InputData.{records_in}
use Rattle.stream_model.specs.Watermarks.{partition_watermark}
use Rattle.restore.specs.declared.partitions.Reached.{Reached}

-- how far some were read, with one more: a partition of which so much is saved, and its entries
abbrev pub with_partition : Reached → SavedPartition × List Marked → Reached
with_partition r x = record {
  watermark = int_min r.watermark (partition_watermark x.1 x.0.offset);
  records = min (r.records + length (records_in (take x.0.offset x.1))) (2 ^ 64 - 1);
}
