use Rattle.std.proofs.Common.{◌≡◌, map}
use Rattle.std.specs.List.{range_with_len}
use Rattle.layout_rules.specs.declared.stage.Operator.TheVariants.{Source}
use Rattle.plan_compiler.proofs.stages.sources_of.Given as goal

abbrev pub invariant-loop-source : goal.invariant-loop-source
invariant-loop-source l = l.operators.items ≡ map Source (range_with_len 0 l.source)
