-- How the operators of a plan are put into stages.
use Rattle.std.specs.Prelude.{List, [], ◌∷◌, Bool, false}
use Rattle.plan_model.specs.PlanData.{PlanData}
use Rattle.layout_rules.specs.declared.stage.Operator.{Operator}
use Rattle.layout_rules.specs.ScaleData.{ScaleData}
use Rattle.layout_rules.specs.Rules.{is_chained}

-- whether the stage of o goes on with the operators after it
abbrev pub continues : PlanData → ScaleData → Operator → List Operator → Bool
continues p c o [] = false
continues p c o (o' ∷ os) = is_chained p c o o'
