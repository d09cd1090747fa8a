use Rattle.std.proofs.Common.{◌≡◌, map}
use Rattle.std.specs.List.{range_with_len}
use Rattle.task_setups.specs.Legs.{leg_over}
use Rattle.task_setups.specs.Setups.{limits_at}
use Rattle.task_setups.proofs.leg.limits_on_way.Given as goal

abbrev pub invariant-loop-save : goal.invariant-loop-save
invariant-loop-save l = l.limits.items ≡ map (limits_at (leg_over l.leg l.input) l.source l.partitions) (range_with_len 0 l.save)
