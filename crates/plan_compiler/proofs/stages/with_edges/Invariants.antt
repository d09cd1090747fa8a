use Rattle.std.proofs.Common.{◌≡◌, map}
use Rattle.std.specs.List.{range_with_len}
use Rattle.layout_rules.specs.Rules.{with_edge}
use Rattle.plan_compiler.proofs.stages.with_edges.Given as goal

abbrev pub invariant-loop-a : goal.invariant-loop-a
invariant-loop-a l = l.all.items ≡ map (with_edge l.stages) (range_with_len 0 l.a)
