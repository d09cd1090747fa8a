-- What checking a leg answers, from what reading its texts answers.
use Rattle.std.proofs.Common.{◌≡◌, ℕ, List, Option, Some, None, Result, Ok, Err, IsOk, IsErr, IsErrAnd, refl, ap, inl, inr}
use Rattle.plan_model.specs.PlanData.{PlanData}
use Rattle.logical_plan.specs.Answer as plans
use Rattle.logical_plan.specs.Answer.{Fails}
use Rattle.logical_plan.specs.declared.fault.PlanFault.{PlanFault}
use Rattle.job_texts.specs.declared.fault.JobFault.{JobFault}
use Rattle.job_texts.specs.declared.fault.JobFault.TheVariants.{Plan}
use Rattle.job_texts.specs.Fault.{is_memory, plan_fault}
use Rattle.job.specs.Ends.{and_then, as_job, InOneThread}
use Rattle.job.specs.Leg.{LegJob, LegRuns, leg_by, leg_said, words}
use Rattle.job.specs.Start.{BeginsLeg}
use Rattle.job.proofs.LegAnswers as leg
use Rattle.job.proofs.LegAnswers.{plan_told, told_of}
use Rattle.commands.specs.Checking.{ChecksParts, ChecksTexts, begins_by}

module _ {X : Type 0} (next : X → Result LegJob JobFault) where
  -- a text is refused
  pub refused : (said : Result X JobFault) (fault : JobFault) (result : Result (Unit {0}) JobFault) → IsErr result → IsErrAnd result (λ e. e ≡ fault) → Fails is_memory fault said → BeginsLeg (and_then next said) result
  refused said fault result fails gives is = leg.refused InOneThread LegRuns (λ job begun. Unit {0}) next said fault result fails gives is

  -- it is read, and the leg begins so
  pub read : (said : Result X JobFault) (x : X) (result : Result (Unit {0}) JobFault) → said ≡ Ok x → BeginsLeg (next x) result → BeginsLeg (and_then next said) result
  read said x result is begins = leg.read InOneThread LegRuns (λ job begun. Unit {0}) next said x result is begins

-- of a text on which the leg does not hang
pub failed : {X F : Type 0} (fault_of : F → JobFault) (said : Result X F) (job : Result LegJob JobFault) (fault : JobFault) (result : Result (Unit {0}) JobFault) → IsErr result → IsErrAnd result (λ e. e ≡ fault) → Fails is_memory fault (as_job fault_of said)
    → BeginsLeg (and_then (λ (x : X). job) (as_job fault_of said)) result
failed {X = X} fault_of said job fault result fails gives is = refused (λ (x : X). job) (as_job fault_of said) fault result fails gives is

pub passed : {X F : Type 0} (fault_of : F → JobFault) (said : Result X F) (job : Result LegJob JobFault) (result : Result (Unit {0}) JobFault) → IsOk said → BeginsLeg job result → BeginsLeg (and_then (λ (x : X). job) (as_job fault_of said)) result
passed fault_of (Ok x) job result is begins = begins
passed fault_of (Err fault) job result is begins = absurd cc

-- ---- the plan of what is checked

told : (plan : List ℕ) (fault : PlanFault) → plans.Fails plans.is_memory fault (plans.plan_of_bytes plan) → Fails is_memory (plan_fault fault) (as_job Plan (plans.plan_of_bytes plan))
told plan fault fails = told_of (plans.plan_of_bytes plan) Plan (plan_fault fault) (plan_told (plans.plan_of_bytes plan) fault fails)

pub plan_refused : (plan : List ℕ) (input scale from stop : Option (List ℕ)) (fault : PlanFault) → plans.Fails plans.is_memory fault (plans.plan_of_bytes plan) → ChecksTexts plan input scale from stop (Err (plan_fault fault))
unfolding leg_said
plan_refused plan None scale from stop fault fails = inl (fault, fails, refl)
plan_refused plan (Some input) (Some scale) from stop fault fails = refused (λ p. leg_by p input scale from (words None stop)) (as_job Plan (plans.plan_of_bytes plan)) (plan_fault fault) (Err (plan_fault fault)) refl refl (told plan fault fails)
plan_refused plan (Some input) None from stop fault fails = refused (λ p. begins_by p input None from stop) (as_job Plan (plans.plan_of_bytes plan)) (plan_fault fault) (Err (plan_fault fault)) refl refl (told plan fault fails)

pub plan_read : (plan : List ℕ) (input scale from stop : Option (List ℕ)) (p : PlanData) (result : Result (Unit {0}) JobFault) → plans.plan_of_bytes plan ≡ Ok p → ChecksParts p input scale from stop result → ChecksTexts plan input scale from stop result
unfolding leg_said leg_by
plan_read plan None scale from stop p result is checks = inr (p, is, checks)
plan_read plan (Some input) (Some scale) from stop p result is checks = read (λ q. leg_by q input scale from (words None stop)) (as_job Plan (plans.plan_of_bytes plan)) p result (ap (as_job Plan) is) checks
plan_read plan (Some input) None from stop p result is checks = read (λ q. begins_by q input None from stop) (as_job Plan (plans.plan_of_bytes plan)) p result (ap (as_job Plan) is) checks
