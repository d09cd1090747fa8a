use Rattle.std.proofs.Common.{◌≡◌, map}
use Rattle.std.specs.List.{range_with_len}
use Rattle.plan_compiler.specs.Tables.{links_of}
use Rattle.plan_compiler.proofs.tasks.Tasks.links.Given as goal

abbrev pub invariant-loop-task : goal.invariant-loop-task
invariant-loop-task l = l.links.items ≡ map (links_of l.counts l.self.stages) (range_with_len 0 l.task)
