use Rattle.std.proofs.Common.{◌≡◌, map}
use Rattle.std.specs.List.{range_with_len}
use Rattle.layout_rules.specs.Below.{sum_below}
use Rattle.layout_rules.specs.Stages.{parallelism_at, place_of}
use Rattle.plan_compiler.proofs.places.places_of.Given as goal

abbrev pub invariant-loop-a : goal.invariant-loop-a
invariant-loop-a l = l.places.items ≡ map (place_of l.stages) (range_with_len 0 (sum_below (parallelism_at l.stages) l.a))
