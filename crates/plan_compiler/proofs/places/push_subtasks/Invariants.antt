use Rattle.std.proofs.Common.{◌≡◌, ◌++◌, map}
use Rattle.std.specs.List.{range_with_len}
use Rattle.plan_compiler.proofs.TaskPlaces.{subtask_place}
use Rattle.plan_compiler.proofs.places.push_subtasks.Given as goal

abbrev pub invariant-loop-subtask : goal.invariant-loop-subtask
invariant-loop-subtask l = l.places.items ≡ l.fn.places.items ++ map (subtask_place l.stage) (range_with_len 0 l.subtask)
