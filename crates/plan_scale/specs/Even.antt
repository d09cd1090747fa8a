-- The scale at which each operator of a plan has the same parallelism, as far as the plan lets it.
use Rattle.std.specs.Prelude.{ℕ, min, max, map, nat_le, Bool, true, ◌&&◌, List, [], ◌∷◌, Result}
use Rattle.key_groups.specs.declared.limits.TheConstants.{MOST_SUBTASKS}
use Rattle.answers.specs.Answer.{otherwise, value_or_fault}
use Rattle.plan_model.specs.declared.spec.SourceSpec.{SourceSpec}
use Rattle.plan_model.specs.PlanData.{PlanData}
use Rattle.layout_rules.specs.declared.limits.TheConstants.{MOST_TASKS}
use Rattle.layout_rules.specs.ScaleData.{ScaleData, scale_data_of}
use Rattle.layout_rules.specs.Stages.{task_count}
use Rattle.layout_rules.specs.Rules.{stages_of}
use Rattle.layout_rules.specs.declared.fault.ScaleFault.{ScaleFault}
use Rattle.layout_rules.specs.declared.fault.ScaleFault.TheVariants.{Parallelism, Tasks}
use Rattle.layout_rules.specs.declared.scale.TheConstants.{DEFAULT_CAPACITY}

abbrev pub most_partitions : List SourceSpec → ℕ
most_partitions [] = 0
most_partitions (s ∷ ss) = max s.partitions (most_partitions ss)

-- the window in so many subtasks, each source too, but no more than partitions, and each filter no more than the source
-- with the most
abbrev pub even_scale : PlanData → ℕ → ScaleData
even_scale plan n =
    scale_data_of DEFAULT_CAPACITY (map (λ s. min n s.partitions) plan.sources) (map (λ _. record { parallelism = min n (most_partitions plan.sources); chain = true }) plan.filters) n

-- an operator may have so many subtasks: 1 to 64, and no more than there are key groups
unfoldable pub is_parallelism : PlanData → ℕ → Bool
is_parallelism plan n = nat_le 1 n && nat_le n (min MOST_SUBTASKS plan.max)

-- the layout has at most 256 tasks, with the sink's one
unfoldable pub has_few_tasks : PlanData → ℕ → Bool
has_few_tasks plan n = nat_le (task_count (stages_of plan (even_scale plan n))) MOST_TASKS

-- the scale, or why there is none: the parallelism is refused, else the number of tasks
unfoldable pub scale_at : PlanData → ℕ → Result ScaleData ScaleFault
scale_at plan n = value_or_fault (otherwise Parallelism (is_parallelism plan) ∷ otherwise Tasks (has_few_tasks plan) ∷ []) (even_scale plan) n
