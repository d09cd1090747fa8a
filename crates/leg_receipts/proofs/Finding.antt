-- What a call answers that reads texts and finds a place, from what reading its texts answers.
use Rattle.std.proofs.Common.{◌≡◌, ℕ, List, Result, Ok, IsErr, IsErrAnd, ap}
use Rattle.answers.specs.Answer.{Fails}
use Rattle.plan_model.specs.PlanData.{PlanData}
use Rattle.logical_plan.specs.Answer as plans
use Rattle.logical_plan.specs.declared.fault.PlanFault.{PlanFault}
use Rattle.stream_model.specs.InputData.{InputData}
use Rattle.input_texts.specs.Answer as inputs
use Rattle.input_texts.specs.declared.fault.InputFault.{InputFault}
use Rattle.job_texts.specs.declared.fault.JobFault.{JobFault}
use Rattle.job_texts.specs.declared.fault.JobFault.TheVariants.{Plan, Input}
use Rattle.job_texts.specs.Fault.{is_memory, plan_fault, input_fault}
use Rattle.job.specs.Ends.{always, and_then, as_job, InOneThread}
use Rattle.job.proofs.LegAnswers as leg
use Rattle.job.proofs.LegAnswers.{input_told, plan_told, told_of}
use Rattle.leg_receipts.specs.Places.{Finds, Place}

module _ {X : Type 0} (Is : Place → X → Type 0) where
  pub refused : {A : Type 0} (next : A → Result Place JobFault) (said : Result A JobFault) (fault : JobFault) (result : Result X JobFault) → IsErr result → IsErrAnd result (λ e. e ≡ fault) → Fails is_memory fault said → Finds Is (and_then next said) result
  refused next said fault result fails gives is = leg.refused InOneThread always Is next said fault result fails gives is

  pub read : {A : Type 0} (next : A → Result Place JobFault) (said : Result A JobFault) (x : A) (result : Result X JobFault) → said ≡ Ok x → Finds Is (next x) result → Finds Is (and_then next said) result
  read next said x result is finds = leg.read InOneThread always Is next said x result is finds

  -- a plan
  pub plan_refused : (next : PlanData → Result Place JobFault) (bytes : List ℕ) (fault : PlanFault) (result : Result X JobFault) → IsErr result → IsErrAnd result (λ e. e ≡ plan_fault fault) → plans.Fails plans.is_memory fault (plans.plan_of_bytes bytes)
      → Finds Is (and_then next (as_job Plan (plans.plan_of_bytes bytes))) result
  plan_refused next bytes fault result fails gives is =
      let said = plans.plan_of_bytes bytes in
      refused next (as_job Plan said) (plan_fault fault) result fails gives (told_of said Plan (plan_fault fault) (plan_told said fault is))

  pub plan_read : (next : PlanData → Result Place JobFault) (bytes : List ℕ) (p : PlanData) (result : Result X JobFault) → plans.plan_of_bytes bytes ≡ Ok p → Finds Is (next p) result → Finds Is (and_then next (as_job Plan (plans.plan_of_bytes bytes))) result
  plan_read next bytes p result is finds = read next (as_job Plan (plans.plan_of_bytes bytes)) p result (ap (as_job Plan) is) finds

  -- an input of it
  pub input_refused : (next : InputData → Result Place JobFault) (p : PlanData) (bytes : List ℕ) (fault : InputFault) (result : Result X JobFault) → IsErr result → IsErrAnd result (λ e. e ≡ input_fault fault) → inputs.Fails inputs.is_memory fault (inputs.input_of_bytes p bytes)
      → Finds Is (and_then next (as_job Input (inputs.input_of_bytes p bytes))) result
  input_refused next p bytes fault result fails gives is =
      let said = inputs.input_of_bytes p bytes in
      refused next (as_job Input said) (input_fault fault) result fails gives (told_of said Input (input_fault fault) (input_told said fault is))

  pub input_read : (next : InputData → Result Place JobFault) (p : PlanData) (bytes : List ℕ) (i : InputData) (result : Result X JobFault) → inputs.input_of_bytes p bytes ≡ Ok i → Finds Is (next i) result → Finds Is (and_then next (as_job Input (inputs.input_of_bytes p bytes))) result
  input_read next p bytes i result is finds = read next (as_job Input (inputs.input_of_bytes p bytes)) i result (ap (as_job Input) is) finds
