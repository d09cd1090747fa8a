use Rattle.std.proofs.Common.{◌≡◌, take}
use Rattle.task_setups.specs.Legs.{leg_over}
use Rattle.task_setups.specs.Setups.{limits_at}
use Rattle.task_setups.proofs.leg.limits_of.Given as goal

abbrev pub invariant-loop-partition : goal.invariant-loop-partition
invariant-loop-partition l = l.limits.items ≡ limits_at (leg_over l.leg l.input) l.source (take l.partition-index l.partitions) l.save
