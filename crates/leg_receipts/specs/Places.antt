-- What texts of a leg say: a plan, an input, and where the leg stands in it.
use Rattle.std.specs.Prelude.{ℕ, List, Option, Result, Ok}
use Rattle.logical_plan.specs.Answer.{plan_of_bytes}
use Rattle.plan_model.specs.PlanData.{PlanData}
use Rattle.stream_model.specs.InputData.{InputData}
use Rattle.input_texts.specs.Answer.{input_of_bytes}
use Rattle.redistribute.specs.StartData.{StartData}
use Rattle.job_texts.specs.declared.fault.JobFault.{JobFault}
use Rattle.job_texts.specs.declared.fault.JobFault.TheVariants.{Plan, Input}
use Rattle.job.specs.Ends.{always, and_then, as_job, Ends, InOneThread}
use Rattle.job.specs.Leg.{start_said}

-- a start in an input of a plan
pub record Place : Type 0 where
  pub plan : PlanData
  pub input : InputData
  pub start : StartData

abbrev pub place : PlanData → InputData → StartData → Place
place p i s = record { plan = p; input = i; start = s }

-- where a savepoint stands, or from nothing the front; with a plan and an input that were read, and with a plan
unfoldable pub place_with : PlanData → InputData → Option (List ℕ) → Result Place JobFault
place_with p i from = and_then (λ s. Ok (place p i s)) (start_said p i from)

unfoldable pub place_by : PlanData → List ℕ → Option (List ℕ) → Result Place JobFault
place_by p input from = and_then (λ i. place_with p i from) (as_job Input (input_of_bytes p input))

-- of texts; or the first refusal: the plan's, the input's, the savepoint's
unfoldable pub place_said : List ℕ → List ℕ → Option (List ℕ) → Result Place JobFault
place_said plan input from = and_then (λ p. place_by p input from) (as_job Plan (plan_of_bytes plan))

-- where there is an answer, it is of the place that the texts say; else the refusal is the first that they give
abbrev pub Finds : {X : Type 0} → (Place → X → Type 0) → Result Place JobFault → Result X JobFault → Type 0
Finds Is said result = Ends InOneThread always Is said result
