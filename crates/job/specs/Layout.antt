-- What printing a layout answers.
use Rattle.std.specs.Prelude.{ℕ, List, Option, Result, Ok}
use Rattle.std.specs.Io.KnownBytes.{Appends}
use Rattle.plan_model.specs.PlanData.{PlanData}
use Rattle.logical_plan.specs.Answer.{plan_of_bytes}
use Rattle.plan_compiler.specs.LayoutData.{layout_of}
use Rattle.plan_scale.specs.Answer.{scale_of_bytes}
use Rattle.job_texts.specs.declared.fault.JobFault.{JobFault}
use Rattle.job_texts.specs.declared.fault.JobFault.TheVariants.{Plan, Scale}
use Rattle.job_texts.specs.LayoutText.{layout_text}
use Rattle.job_texts.specs.Tells.{Tells}
use Rattle.job.specs.Ends.{and_then, as_job}

-- with a plan that was read
unfoldable pub layout_by : PlanData → List ℕ → Result (List ℕ) JobFault
layout_by p scale = and_then (λ s. Ok (layout_text p (layout_of p s))) (as_job Scale (scale_of_bytes p scale))

-- the text of the layout that the rules give of the plan and the scale that the bytes are, or the first refusal: the
-- plan's, else the scale's
unfoldable pub layout_said : List ℕ → List ℕ → Result (List ℕ) JobFault
layout_said plan scale = and_then (λ p. layout_by p scale) (as_job Plan (plan_of_bytes plan))

abbrev pub TellsLayout : Result (List ℕ) JobFault → Result (Unit {0}) JobFault → Option (List ℕ) → Option (List ℕ) → Type 0
TellsLayout said result old new = Tells (λ text. Appends old new text) said result
