-- By what the entries of a source are marked.
use Rattle.std.specs.Prelude.{◌<◌}
use Rattle.columns.specs.Table.{IsWidth}
use Rattle.plan_model.specs.PlanData.{IsBound}
use Rattle.stream_input.specs.declared.building.Marking.{Marking}

-- a width, one of its columns, and a bound that a source may have
pub record IsMarking (marking : Marking) : Type 0 where
  pub width : IsWidth marking.columns
  pub time : marking.time < marking.columns
  pub bounded : IsBound marking.bound
