use Rattle.std.proofs.Common.{◌≡◌, map, take}
use Rattle.input_cuts.specs.Cuts.{first_count}
use Rattle.input_cuts.proofs.finding.first_counts.Given as goal

abbrev pub invariant-loop-partition : goal.invariant-loop-partition
invariant-loop-partition l = l.counts.items ≡ map (first_count l.watermark) (take l.partition-index l.partition-items)
