use Rattle.std.proofs.Common.{◌≡◌, map, take}
use Rattle.logical_plan.specs.Answer.{aggregate_data}
use Rattle.logical_plan.proofs.building.aggregate_specs.Given as goal

abbrev pub invariant-loop-aggregate : goal.invariant-loop-aggregate
invariant-loop-aggregate l = l.specs.items ≡ map aggregate_data (take l.aggregate-index l.aggregates)
