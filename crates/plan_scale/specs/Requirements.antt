-- What a scale must meet, and the fault where it does not, in the order in which they are decided.
use Rattle.std.specs.Prelude.{min, pos, nat_le, Bool, List, [], ◌∷◌, Option, bytes_eq}
use Rattle.std.specs.List.{list_all, list_any}
use Rattle.plan_model.specs.PlanData.{PlanData, uids}
use Rattle.answers.specs.Answer.{otherwise}
use Rattle.json_parts.specs.Tests.{is_within}
use Rattle.key_groups.specs.declared.limits.TheConstants.{MOST_SUBTASKS}
use Rattle.layout_rules.specs.declared.fault.ScaleFault.{ScaleFault}
use Rattle.layout_rules.specs.declared.fault.ScaleFault.TheVariants.{UnknownUid, MissingUid, Parallelism, Ring, Tasks}
use Rattle.layout_rules.specs.declared.limits.TheConstants.{MOST_CAPACITY, MOST_TASKS}
use Rattle.layout_rules.specs.Stages.{task_count}
use Rattle.layout_rules.specs.Rules.{stages_of}
use Rattle.plan_scale.specs.declared.text.ScaleText.{ScaleText}
use Rattle.plan_scale.specs.Said.{scale_of}

-- each member has the uid of an operator of the plan
unfoldable pub has_known_uids : PlanData → ScaleText → Bool
has_known_uids plan text = list_all (λ m. list_any (bytes_eq m.0) (uids plan)) text.operators

-- each source and filter, and the window, has a member
unfoldable pub has_all_uids : PlanData → ScaleText → Bool
has_all_uids plan text = list_all (λ uid. list_any (λ m. bytes_eq m.0 uid) text.operators) (uids plan)

-- each parallelism is 1 to 64, and no more than there are key groups
unfoldable pub has_parallelism : PlanData → ScaleText → Bool
has_parallelism plan text = list_all (λ m. is_within (pos 1) (pos (min MOST_SUBTASKS plan.max)) m.1.parallelism) text.operators

-- a ring holds 1 to 1,024 messages
unfoldable pub has_capacity : PlanData → ScaleText → Bool
has_capacity plan text = is_within (pos 1) (pos MOST_CAPACITY) text.ring

-- the layout has at most 256 tasks, with the sink's one
unfoldable pub has_few_tasks : PlanData → ScaleText → Bool
has_few_tasks plan text = nat_le (task_count (stages_of plan (scale_of plan text))) MOST_TASKS

unfoldable pub requirements : PlanData → List (ScaleText → Option ScaleFault)
requirements plan = otherwise UnknownUid (has_known_uids plan) ∷ otherwise MissingUid (has_all_uids plan) ∷ otherwise Parallelism (has_parallelism plan) ∷ otherwise Ring (has_capacity plan) ∷ otherwise Tasks (has_few_tasks plan) ∷ []
