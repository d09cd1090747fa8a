use Rattle.std.proofs.Common.{◌≡◌, ◌++◌, length}
use Rattle.layout_rules.specs.Rules.{stage_operators}
use Rattle.plan_compiler.proofs.Staged.{begun}
use Rattle.plan_compiler.proofs.stages.stage_operators.Given as goal

abbrev pub invariant-loop-rest : goal.invariant-loop-rest
invariant-loop-rest l = l.stages.items ++ begun l.stage.items (stage_operators l.plan l.scale l.rest) ≡ stage_operators l.plan l.scale l.operators

abbrev pub decreases-loop-rest : goal.decreases-loop-rest
decreases-loop-rest l = length l.rest
