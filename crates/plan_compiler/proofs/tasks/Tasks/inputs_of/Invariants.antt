use Rattle.std.proofs.Common.{◌≡◌}
use Rattle.layout_rules.specs.Below.{filter_below}
use Rattle.layout_rules.specs.Stages.{is_ring}
use Rattle.plan_compiler.proofs.tasks.Tasks.inputs_of.Given as goal

abbrev pub invariant-loop-from : goal.invariant-loop-from
invariant-loop-from l = l.found.items ≡ filter_below (λ s. is_ring l.self.stages s l.task) l.from
