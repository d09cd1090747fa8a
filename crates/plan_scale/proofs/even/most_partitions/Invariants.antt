use Rattle.std.proofs.Common.{◌≡◌, drop, max}
use Rattle.plan_scale.specs.Even.{most_partitions}
use Rattle.plan_scale.proofs.even.most_partitions.Given as goal

abbrev pub invariant-loop-source : goal.invariant-loop-source
invariant-loop-source l = max l.most (most_partitions (drop l.source-index l.sources)) ≡ most_partitions l.sources
