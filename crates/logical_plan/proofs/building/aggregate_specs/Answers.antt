use Rattle.std.proofs.lemmas.Int.{to_z-of_z}
use Rattle.std.proofs.lemmas.List.Sums.{AllPass-from_list_all}
use Rattle.logical_plan.specs.Requirements.{is_aggregate_of}
use Rattle.logical_plan.proofs.building.aggregate_specs.Goals as goal

pub aggregate_spec-requires-clause-column : goal.aggregate_spec-requires-clause-column
aggregate_spec-requires-clause-column c =
    let fits = c.ranges.columns in
    simp to_z-of_z (AllPass-from_list_all (is_aggregate_of c.args.columns) c.args.aggregates.now c.requires.within c.loop-aggregate.aggregate-index _ c.loop-aggregate-test.true)
