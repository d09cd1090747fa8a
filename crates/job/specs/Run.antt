-- What running a job answers.
use Rattle.std.specs.Prelude.{◌≡◌, ◌⊎◌, ℕ, List, length, Option, Some, None, Result, Ok}
use Rattle.std.specs.Io.KnownBytes.{Appends}
use Rattle.plan_model.specs.PlanData.{PlanData}
use Rattle.plan_model.specs.declared.spec.Pane.{Pane}
use Rattle.plan_model.specs.declared.spec.Row.{Row}
use Rattle.logical_plan.specs.Answer.{plan_of_bytes}
use Rattle.stream_model.specs.InputData.{InputData}
use Rattle.stream_model.specs.PlanRows.{plan_rows}
use Rattle.stream_model.specs.Watermarks.{empty_cut}
use Rattle.input_texts.specs.Answer.{input_of_bytes}
use Rattle.leg_lists.specs.Answer.{legs_of_bytes}
use Rattle.leg_lists.specs.ChoicesText.{choices_of_bytes}
use Rattle.legs.specs.declared.fault.LegFault.{LegFault}
use Rattle.legs.specs.declared.leg.LegSpec.{LegSpec}
use Rattle.job_texts.specs.declared.fault.JobFault.{JobFault}
use Rattle.job_texts.specs.declared.fault.JobFault.TheVariants.{Plan, Input, Memory}
use Rattle.job_texts.specs.Fault.{leg_fault}
use Rattle.job_texts.specs.Text.{IsTextOf}
use Rattle.job_legs.specs.Running.{CanRunLegs, ForbidsLegs, last_stop}
use Rattle.job_legs.specs.Ending.{rows_to}
use Rattle.job.specs.Ends.{and_then, as_job, Ends, Does, OnThreads}

-- what the texts of a job say: with a list of legs, it runs in these
pub record RunJob : Type 0 where
  pub plan : PlanData
  pub input : InputData
  pub legs : Option (List LegSpec)

abbrev pub run_job : PlanData → InputData → Option (List LegSpec) → RunJob
run_job p i legs = record { plan = p; input = i; legs = legs }

-- choices of steps, where there are any, are a list for each leg; what the job is does not hang on them
unfoldable pub choices_in : PlanData → InputData → List LegSpec → Option (List ℕ) → Result RunJob JobFault
choices_in p i legs None = Ok (run_job p i (Some legs))
choices_in p i legs (Some bytes) = and_then (λ choices. Ok (run_job p i (Some legs))) (as_job leg_fault (choices_of_bytes (length legs) bytes))

-- the legs that bytes are, with such choices
unfoldable pub legs_in : PlanData → InputData → List ℕ → Option (List ℕ) → Result RunJob JobFault
legs_in p i bytes choices = and_then (λ legs. choices_in p i legs choices) (as_job leg_fault (legs_of_bytes p bytes))

-- with a plan and an input that were read, and with a plan
unfoldable pub run_with : PlanData → InputData → Option (List ℕ) → Option (List ℕ) → Result RunJob JobFault
run_with p i None choices = Ok (run_job p i None)
run_with p i (Some bytes) choices = legs_in p i bytes choices

unfoldable pub run_by : PlanData → List ℕ → Option (List ℕ) → Option (List ℕ) → Result RunJob JobFault
run_by p input legs choices = and_then (λ i. run_with p i legs choices) (as_job Input (input_of_bytes p input))

-- what the texts say, or the first refusal: the plan's, else the input's, else that of the list of legs, else that of
-- the choices
unfoldable pub run_said : List ℕ → List ℕ → Option (List ℕ) → Option (List ℕ) → Result RunJob JobFault
run_said plan input legs choices = and_then (λ p. run_by p input legs choices) (as_job Plan (plan_of_bytes plan))

-- its legs, if it runs in legs, can run so, each from where the one before stopped, or why they cannot
abbrev pub legs_run : InputData → Option (List LegSpec) → Option LegFault → Type 0
legs_run i None None = Unit {0}
legs_run i None (Some fault) = ⊥
legs_run i (Some legs) None = CanRunLegs i (empty_cut i.sources) legs
legs_run i (Some legs) (Some fault) = ForbidsLegs i (empty_cut i.sources) legs fault

abbrev pub RunRuns : RunJob → Option LegFault → Type 0
RunRuns job why = legs_run job.input job.legs why

-- the rows of a job: all of the plan's, or those of where its last leg comes to
abbrev pub job_rows : PlanData → InputData → Option (List LegSpec) → Pane → Option Row
job_rows p i None = plan_rows p i.sources
job_rows p i (Some legs) = rows_to p i (last_stop legs)

abbrev pub IsRunText : RunJob → List ℕ → Type 0
IsRunText job text = IsTextOf (job_rows job.plan job.input job.legs) text

-- what reading the texts of a job and running it answers
abbrev pub EndsRun : {X : Type 0} → (JobFault → Type 0) → (X → List ℕ) → Result RunJob JobFault → Result X JobFault → Type 0
EndsRun Other view said result = Ends Other RunRuns (λ job text. IsRunText job (view text)) said result

-- why a leg that goes from nothing to the end on threads has no rows: for want of memory, or of a thread
abbrev pub IsWholeRefusal : JobFault → Type 0
IsWholeRefusal fault = (fault ≡ Memory) ⊎ OnThreads fault

-- what the writer held has grown by exactly the text of the job's rows
abbrev pub WritesRows : Option (List ℕ) → Option (List ℕ) → RunJob → Type 0
WritesRows old new job = (text : List ℕ) × IsRunText job text × Appends old new text

abbrev pub Answers : (JobFault → Type 0) → Result RunJob JobFault → Result (Unit {0}) JobFault → Option (List ℕ) → Option (List ℕ) → Type 0
Answers Other said result old new = Does Other RunRuns (λ job _. WritesRows old new job) said result

-- bytes are a plan and an input of it, and what a writer held has grown by exactly the lines of the plan's rows on the
-- input, one for each key and nonempty window that its conditions keep, in the order of start and key
pub record WritesPlanRows (plan input : List ℕ) (old new : Option (List ℕ)) : Type 0 where
  pub read_plan : PlanData
  pub read_input : InputData
  pub plan_is : plan_of_bytes plan ≡ Ok read_plan
  pub input_is : input_of_bytes read_plan input ≡ Ok read_input
  pub text : List ℕ
  pub lines : IsTextOf (plan_rows read_plan read_input.sources) text
  pub grown : Appends old new text
