use Rattle.std.proofs.Common.{◌≡◌, map, take, FitsSigned}
use Rattle.std.specs.Int.{w64}
use Rattle.std.specs.List.{All}
use Rattle.logical_plan.specs.Answer.{having_data}
use Rattle.logical_plan.proofs.building.having_specs.Given as goal

abbrev pub invariant-loop-condition : goal.invariant-loop-condition
invariant-loop-condition l = record {
  says : l.specs.items ≡ map having_data (take l.condition-index l.having);
  fit : All (λ h. FitsSigned w64 h.value) l.specs.items;
}
