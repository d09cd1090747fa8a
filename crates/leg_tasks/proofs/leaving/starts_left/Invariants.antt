use Rattle.std.proofs.Common.{◌≡◌, map}
use Rattle.std.specs.List.{range_with_len}
use Rattle.leg_tasks.specs.Leaving.{start_left, state_at}
use Rattle.leg_tasks.proofs.leaving.starts_left.Given as goal

abbrev pub invariant-loop-place : goal.invariant-loop-place
invariant-loop-place l = l.starts.items ≡ map (start_left l.partitions (state_at l.fn.at l.task.state)) (range_with_len 0 l.place)
