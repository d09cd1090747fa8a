-- What running a job in so many subtasks answers.
use Rattle.std.specs.Prelude.{ℕ, List, Result, Ok, Err, None}
use Rattle.std.specs.Option.{option_map_or}
use Rattle.plan_model.specs.PlanData.{PlanData}
use Rattle.logical_plan.specs.Answer.{plan_of_bytes}
use Rattle.layout_rules.specs.ScaleData.{ScaleData}
use Rattle.plan_scale.specs.Even.{scale_at}
use Rattle.stream_model.specs.InputData.{InputData}
use Rattle.input_texts.specs.Answer.{input_of_bytes}
use Rattle.job_texts.specs.Group.{number_said}
use Rattle.job_texts.specs.declared.fault.JobFault.{JobFault}
use Rattle.job_texts.specs.declared.fault.JobFault.TheVariants.{Plan, Input, Scale, Number}
use Rattle.job.specs.Ends.{and_then, as_job}
use Rattle.job.specs.Run.{RunJob, run_job}

-- the scale that a word of 1 to 5 digits asks for, or why it asks for none: it is no such word, or there is no such
-- scale
unfoldable pub scale_said : PlanData → List ℕ → Result ScaleData JobFault
scale_said p word = option_map_or (λ n. as_job Scale (scale_at p n)) (number_said 5 0 99999 word) (Err Number)

-- with a plan and an input that were read; the job is the one that runs as one leg, whatever the scale
unfoldable pub parallel_on : PlanData → InputData → List ℕ → Result RunJob JobFault
parallel_on p i word = and_then (λ c. Ok (run_job p i None)) (scale_said p word)

unfoldable pub parallel_by : PlanData → List ℕ → List ℕ → Result RunJob JobFault
parallel_by p input word = and_then (λ i. parallel_on p i word) (as_job Input (input_of_bytes p input))

-- what the texts say, or the first refusal: the plan's, else the input's, else the word's
unfoldable pub parallel_said : List ℕ → List ℕ → List ℕ → Result RunJob JobFault
parallel_said plan input word = and_then (λ p. parallel_by p input word) (as_job Plan (plan_of_bytes plan))
