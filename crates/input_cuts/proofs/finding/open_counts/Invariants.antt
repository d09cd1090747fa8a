use Rattle.std.proofs.Common.{◌≡◌, map, take}
use Rattle.input_cuts.specs.Cuts.{open_count}
use Rattle.input_cuts.proofs.finding.open_counts.Given as goal

abbrev pub invariant-loop-partition : goal.invariant-loop-partition
invariant-loop-partition l = l.counts.items ≡ map open_count (take l.partition-index l.partition-items)
