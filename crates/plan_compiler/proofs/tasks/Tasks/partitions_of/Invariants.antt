use Rattle.std.proofs.Common.{◌≡◌}
use Rattle.layout_rules.specs.Below.{filter_below}
use Rattle.layout_rules.specs.Stages.{belongs}
use Rattle.plan_compiler.proofs.tasks.Tasks.partitions_of.Given as goal

abbrev pub invariant-loop-partition : goal.invariant-loop-partition
invariant-loop-partition l = l.found.items ≡ filter_below (belongs l.self.stages l.task) l.partition
