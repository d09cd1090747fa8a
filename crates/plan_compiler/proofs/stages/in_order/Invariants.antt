use Rattle.std.proofs.Common.{◌≡◌, ◌++◌, map, length}
use Rattle.std.specs.List.{range_with_len}
use Rattle.layout_rules.specs.declared.stage.Operator.TheVariants.{Source, Filter}
use Rattle.plan_compiler.proofs.stages.in_order.Given as goal

abbrev pub invariant-loop-filter : goal.invariant-loop-filter
invariant-loop-filter l = l.operators.items ≡ map Source (range_with_len 0 (length l.plan.sources)) ++ map Filter (range_with_len 0 l.filter)
