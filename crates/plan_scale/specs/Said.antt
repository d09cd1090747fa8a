-- The scale that a text stands for.
use Rattle.std.specs.Prelude.{ℕ, pos, true, List, map, unsigned_abs, bytes_eq}
use Rattle.std.specs.Option.{option_map_or}
use Rattle.std.specs.List.{find}
use Rattle.plan_model.specs.PlanData.{PlanData}
use Rattle.layout_rules.specs.declared.stage.FilterScale.{FilterScale}
use Rattle.layout_rules.specs.ScaleData.{ScaleData, scale_data_of}
use Rattle.layout_rules.specs.declared.scale.TheConstants.{DEFAULT_CAPACITY}
use Rattle.plan_scale.specs.declared.text.OperatorText.{OperatorText}
use Rattle.plan_scale.specs.declared.text.ScaleText.{ScaleText}

-- one subtask, which may join the stage before it
abbrev pub one_subtask : OperatorText
one_subtask = record { parallelism = pos 1; chain = true }

-- what stands under a uid, and one subtask where nothing does
abbrev pub operator_under : List ℕ → List (List ℕ × OperatorText) → OperatorText
operator_under uid operators = option_map_or (λ m. m.1) (find (λ m. bytes_eq m.0 uid) operators) one_subtask

abbrev pub parallelism_under : List ℕ → List (List ℕ × OperatorText) → ℕ
parallelism_under uid operators = unsigned_abs (operator_under uid operators).parallelism

abbrev pub filter_under : List ℕ → List (List ℕ × OperatorText) → FilterScale
filter_under uid operators = record { parallelism = parallelism_under uid operators; chain = (operator_under uid operators).chain }

-- sources and filters in plan order
abbrev pub scale_of : PlanData → ScaleText → ScaleData
scale_of plan text =
    scale_data_of (unsigned_abs text.ring) (map (λ s. parallelism_under s.uid text.operators) plan.sources) (map (λ f. filter_under f.uid text.operators) plan.filters) (parallelism_under plan.window.uid text.operators)

-- one subtask for each operator, which may all be chained
abbrev pub single_scale : PlanData → ScaleData
single_scale plan = scale_data_of DEFAULT_CAPACITY (map (λ _. 1) plan.sources) (map (λ _. record { parallelism = 1; chain = true }) plan.filters) 1
