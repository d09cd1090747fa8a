use Rattle.std.proofs.Common.{◌≡◌}
use Rattle.layout_rules.specs.Below.{filter_below}
use Rattle.layout_rules.specs.Stages.{is_ring}
use Rattle.plan_compiler.proofs.tasks.Tasks.outputs_of.Given as goal

abbrev pub invariant-loop-into : goal.invariant-loop-into
invariant-loop-into l = l.found.items ≡ filter_below (is_ring l.self.stages l.task) l.into
