use Rattle.std.proofs.Common.{◌≡◌, map}
use Rattle.std.specs.List.{range_with_len}
use Rattle.gather.specs.Parts.{partition_in}
use Rattle.gather.specs.Sources.{AreTyped}
use Rattle.gather.proofs.sources.partitions_of.Given as goal

abbrev pub invariant-loop-partition : goal.invariant-loop-partition
invariant-loop-partition l = record {
  says : l.saved.items ≡ map (partition_in l.starts) (range_with_len 0 l.partition);
  typed : AreTyped l.saved.items;
}
