-- What the tasks of a leg begin with.
use Rattle.std.specs.Prelude.{◌≡◌, ℕ, ◌+◌, ◌^◌, ◌<◌, ℤ, List, length, Option, option_map}
use Rattle.plan_model.specs.PlanData.{PlanData, IsPlan}
use Rattle.plan_model.specs.declared.limits.TheConstants.{MOST_RECORDS}
use Rattle.window_state.specs.State.{StateData}
use Rattle.dataflow_model.specs.declared.role.Role.TheVariants.{Source}
use Rattle.dataflow_model.specs.Leg.{Leg}
use Rattle.layout_rules.specs.declared.stage.Stage.{Stage}
use Rattle.layout_rules.specs.Rules.{IsCompiled}
use Rattle.layout_rules.specs.Scale.{ScaleData, IsScale}
use Rattle.layout_rules.specs.Stages.{task_count}
use Rattle.task_steps.specs.Beginning.{CanBegin}
use Rattle.task_steps.specs.TaskData.{windows_in, HasCounts}
use Rattle.task_setups.specs.Setups.{setup_of, window_of}

-- what task t of a leg can begin with: a watermark for each input, of a source an offset for each partition, and of the
-- window's task alone windows by the plan's operator, each of at most 2^40 records
pub record Suits (p : PlanData) (leg : Leg) (stages : List Stage) (t : ℕ) (offsets : List ℕ) (marks : List ℤ) (window : Option StateData) : Type 0 where
  pub marked : length marks ≡ (setup_of p leg stages t).inputs
  pub placed : (setup_of p leg stages t).role ≡ Source → length offsets ≡ (setup_of p leg stages t).inputs
  pub operator : option_map (λ w. w.window) window ≡ window_of p stages t
  pub counts : HasCounts MOST_RECORDS (windows_in window)

-- a task of a compiled layout can begin with what suits it, in a leg of which each barrier has a number, from 1 on
abbrev pub EveryTaskBegins : Type 0
EveryTaskBegins = (p : PlanData) (c : ScaleData) (leg : Leg) (stages : List Stage) (t : ℕ) (offsets : List ℕ) (marks : List ℤ) (window : Option StateData)
    → IsPlan p → IsScale p c → IsCompiled p c stages → t < task_count stages → 0 < leg.first → leg.first + leg.saves < 2 ^ 64
    → Suits p leg stages t offsets marks window → CanBegin (setup_of p leg stages t) offsets marks window
