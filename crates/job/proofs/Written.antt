-- What a run without legs has written.
use Rattle.std.proofs.Common.{◌≡◌, ℕ, List, Option, None, Result, Ok, Err, MatchResult, OnOk, sym, subst}
use Rattle.std.specs.Io.KnownBytes.{Appends}
use Rattle.plan_model.specs.PlanData.{PlanData}
use Rattle.logical_plan.specs.Answer.{plan_of_bytes}
use Rattle.stream_model.specs.InputData.{InputData}
use Rattle.input_texts.specs.Answer.{input_of_bytes}
use Rattle.job_texts.specs.declared.fault.JobFault.{JobFault}
use Rattle.job_texts.specs.declared.fault.JobFault.TheVariants.{Plan, Input, Write}
use Rattle.job.specs.Ends.{as_job, OnThreads}
use Rattle.job.specs.Run.{EndsRun, IsRunText, RunJob, WritesPlanRows, run_by, run_job, run_said, run_with}
use Rattle.job.proofs.Facts.{job_ok, ok_is, then_ok}

-- texts without legs say a plan and an input
record SaysPlan (plan input : List ℕ) (job : RunJob) : Type 0 where
  p : PlanData
  i : InputData
  plan_is : plan_of_bytes plan ≡ Ok p
  input_is : input_of_bytes p input ≡ Ok i
  is : run_job p i None ≡ job

says_plan : (plan input : List ℕ) (job : RunJob) → run_said plan input None None ≡ Ok job → SaysPlan plan input job
unfolding run_said run_by run_with
says_plan plan input job said =
    let a = then_ok (λ p. run_by p input None None) (as_job Plan (plan_of_bytes plan)) job said in
    let b = then_ok (λ i. run_with a.0 i None None) (as_job Input (input_of_bytes a.0 input)) job a.2 in
    record { p = a.0; i = b.0; plan_is = job_ok Plan (plan_of_bytes plan) a.0 a.1; input_is = job_ok Input (input_of_bytes a.0 input) b.0 b.1; is = ok_is (run_job a.0 b.0 None) job b.2 }

pub writes_plan_rows : (plan input : List ℕ) (legs : Option (List ℕ)) (text : List ℕ) (old new : Option (List ℕ)) (result : Result (Unit {0}) JobFault) → legs ≡ None
    → EndsRun OnThreads (λ bytes. bytes) (run_said plan input legs None) (Ok text) → MatchResult result (λ _. Appends old new text) (λ fault. fault ≡ Write) → OnOk result (WritesPlanRows plan input old new)
writes_plan_rows plan input legs text old new (Err fault) none ends wrote = tt
writes_plan_rows plan input legs text old new (Ok x) none ends wrote =
    let says = says_plan plan input ends.0 (subst (λ l. run_said plan input l None ≡ Ok ends.0) none ends.1) in
    record { read_plan = says.p; read_input = says.i; plan_is = says.plan_is; input_is = says.input_is; text = text; lines = subst (λ job. IsRunText job text) (sym says.is) ends.3; grown = wrote }
