use Rattle.std.proofs.Common.{◌≡◌, map}
use Rattle.std.specs.List.{range_with_len}
use Rattle.redistribute.specs.Parts.{whole_task_start}
use Rattle.redistribute.proofs.spreading.spread.Given as goal

abbrev pub invariant-loop-task : goal.invariant-loop-task
invariant-loop-task l = l.starts.items ≡ map (whole_task_start l.layout.max l.layout.partitions l.start l.layout.stages) (range_with_len 0 l.task)
