-- What a leg answers, from what reading its texts answers.
use Rattle.std.proofs.Common.{◌≡◌, ◌∙◌, Bool, true, false, Option, Result, Ok, Err, IsErr, IsErrAnd, refl, sym, ap, subst, inl, inr}
use Rattle.std.specs.Prelude.{◌⊎◌}
use Rattle.answers.specs.Answer.{unless, Fails}
use Rattle.logical_plan.specs.Answer as plans
use Rattle.logical_plan.specs.declared.fault.PlanFault.{PlanFault}
use Rattle.logical_plan.specs.declared.fault.PlanFault.TheVariants as plan
use Rattle.input_texts.specs.Answer as inputs
use Rattle.input_texts.specs.declared.fault.InputFault.{InputFault}
use Rattle.input_texts.specs.declared.fault.InputFault.TheVariants as input
use Rattle.plan_scale.specs.Answer as scales
use Rattle.layout_rules.specs.declared.fault.ScaleFault.{ScaleFault}
use Rattle.layout_rules.specs.declared.fault.ScaleFault.TheVariants as scale
use Rattle.legs.specs.declared.fault.LegFault.{LegFault}
use Rattle.job_texts.specs.declared.fault.JobFault.{JobFault}
use Rattle.job_texts.specs.declared.fault.JobFault.TheVariants.{Plan, Input, Scale, Memory}
use Rattle.job_texts.specs.Fault.{plan_fault, input_fault, scale_fault, is_memory}
use Rattle.job.specs.declared.leg.LegEnd.{LegEnd}
use Rattle.job.specs.Ends.{and_then, as_job, Does, Ends, IsHalted, IsLate}
use Rattle.job.specs.Leg.{LegJob, GivesLeg}
use Rattle.job.specs.Asked.{EndsLeg, IsEndSo}

pub only : {P Q : Type 0} (b : Bool) → (P → Q) → unless b P → unless b Q
only true f h = tt
only false f h = f h

pub given : {P : Type 0} (b : Bool) → P → unless b P
given true h = tt
given false h = h

-- ---- the faults of readers

-- what is told is want of memory, or the fault that a reader answers
abbrev IsToldOf : {X F : Type 0} → Result X F → (F → JobFault) → JobFault → Type 0
IsToldOf {F = F} said fault_of told = (told ≡ Memory) ⊎ ((f : F) × (said ≡ Err f) × (told ≡ fault_of f))

pub plan_told : {X : Type 0} (said : Result X PlanFault) (fault : PlanFault) → plans.Fails plans.is_memory fault said → IsToldOf said Plan (plan_fault fault)
plan_told said plan.Memory is = inl refl
plan_told said plan.NotJson is = inr (plan.NotJson, is, refl)
plan_told said plan.Member is = inr (plan.Member, is, refl)
plan_told said plan.Columns is = inr (plan.Columns, is, refl)
plan_told said plan.ColumnIndex is = inr (plan.ColumnIndex, is, refl)
plan_told said plan.MaxParallelism is = inr (plan.MaxParallelism, is, refl)
plan_told said plan.Sources is = inr (plan.Sources, is, refl)
plan_told said plan.Partitions is = inr (plan.Partitions, is, refl)
plan_told said plan.Uid is = inr (plan.Uid, is, refl)
plan_told said plan.UidTwice is = inr (plan.UidTwice, is, refl)
plan_told said plan.Filters is = inr (plan.Filters, is, refl)
plan_told said plan.WindowSize is = inr (plan.WindowSize, is, refl)
plan_told said plan.WindowSlide is = inr (plan.WindowSlide, is, refl)
plan_told said plan.WindowOffset is = inr (plan.WindowOffset, is, refl)
plan_told said plan.Panes is = inr (plan.Panes, is, refl)
plan_told said plan.Aggregates is = inr (plan.Aggregates, is, refl)
plan_told said plan.Bound is = inr (plan.Bound, is, refl)

pub input_told : {X : Type 0} (said : Result X InputFault) (fault : InputFault) → inputs.Fails inputs.is_memory fault said → IsToldOf said Input (input_fault fault)
input_told said input.Memory is = inl refl
input_told said input.NotJson is = inr (input.NotJson, is, refl)
input_told said input.Member is = inr (input.Member, is, refl)
input_told said input.Source is = inr (input.Source, is, refl)
input_told said input.Partitions is = inr (input.Partitions, is, refl)
input_told said input.Width is = inr (input.Width, is, refl)
input_told said input.Number is = inr (input.Number, is, refl)
input_told said input.Rows is = inr (input.Rows, is, refl)
input_told said input.TimeRange is = inr (input.TimeRange, is, refl)
input_told said input.Kind is = inr (input.Kind, is, refl)
input_told said input.TooMany is = inr (input.TooMany, is, refl)
input_told said (input.LateRecord s p n) is = inr (input.LateRecord s p n, is, refl)

pub scale_told : {X : Type 0} (said : Result X ScaleFault) (fault : ScaleFault) → scales.Fails scales.is_memory fault said → IsToldOf said Scale (scale_fault fault)
scale_told said scale.Memory is = inl refl
scale_told said scale.NotJson is = inr (scale.NotJson, is, refl)
scale_told said scale.Member is = inr (scale.Member, is, refl)
scale_told said scale.UnknownUid is = inr (scale.UnknownUid, is, refl)
scale_told said scale.MissingUid is = inr (scale.MissingUid, is, refl)
scale_told said scale.Parallelism is = inr (scale.Parallelism, is, refl)
scale_told said scale.Ring is = inr (scale.Ring, is, refl)
scale_told said scale.Tasks is = inr (scale.Tasks, is, refl)

-- and so of what a job's reader says
pub told_of : {X F : Type 0} (said : Result X F) (fault_of : F → JobFault) (told : JobFault) → IsToldOf said fault_of told → Fails is_memory told (as_job fault_of said)
told_of said fault_of told (inl e) = subst (λ z. Fails is_memory z (as_job fault_of said)) (sym e) tt
told_of said fault_of told (inr (f, s, e)) = given (is_memory told) (ap (as_job fault_of) s ∙ ap Err (sym e))

-- a fault of a part is one of what goes on from it
pub passed_on : {X Y : Type 0} (next : X → Result Y JobFault) (said : Result X JobFault) (fault : JobFault) → Fails is_memory fault said → Fails is_memory fault (and_then next said)
passed_on next said fault is = only (is_memory fault) (λ e. ap (and_then next) e) is

pub err_is : {T E : Type 0} (r : Result T E) (e : E) → IsErr r → IsErrAnd r (λ y. y ≡ e) → r ≡ Err e
err_is (Ok x) e fails is = absurd cc
err_is (Err y) e fails is = ap Err is

-- ---- the texts of a job

module _ {J T : Type 0} (Other : JobFault → Type 0) (Runs : J → Option LegFault → Type 0) (Is : J → T → Type 0) where
  -- a text is refused
  pub refused : {X : Type 0} (next : X → Result J JobFault) (said : Result X JobFault) (fault : JobFault) (result : Result T JobFault) → IsErr result → IsErrAnd result (λ e. e ≡ fault) → Fails is_memory fault said → Ends Other Runs Is (and_then next said) result
  refused next said fault result fails gives is = subst (Ends Other Runs Is (and_then next said)) (sym (err_is result fault fails gives)) (only (is_memory fault) (λ e. inl (ap (and_then next) e)) is)

  -- it is read, and the job ends so
  pub read : {X : Type 0} (next : X → Result J JobFault) (said : Result X JobFault) (x : X) (result : Result T JobFault) → said ≡ Ok x → Ends Other Runs Is (next x) result → Ends Other Runs Is (and_then next said) result
  read next said x result is ends = subst (λ z. Ends Other Runs Is (and_then next z) result) (sym is) ends

-- what is not run is not done
pub late : {J X Y : Type 0} (Other : JobFault → Type 0) (Runs : J → Option LegFault → Type 0) (Is : J → X → Type 0) (Done : J → Y → Type 0) (said : Result J JobFault) (fault : JobFault) (result : Result Y JobFault) → IsErr result → IsErrAnd result (λ e. e ≡ fault)
    → Ends {X = X} Other Runs Is said (Err fault) → Does Other Runs Done said result
late {J} Other Runs Is Done said fault result fails gives ends = subst (Does Other Runs Done said) (sym (err_is result fault fails gives)) (only (is_memory fault) why ends)
  where
    why : (said ≡ Err fault) ⊎ ((job : J) × (said ≡ Ok job) × IsHalted Other Runs job fault) → (said ≡ Err fault) ⊎ ((job : J) × (said ≡ Ok job) × IsLate Other Runs job fault)
    why (inl refused) = inl refused
    why (inr (job, is, halted)) = inr (job, is, inl halted)

-- all texts of a leg are read
pub told : (asked : Bool) (job : LegJob) (result : Result LegEnd JobFault) → GivesLeg (IsEndSo asked job) job result → EndsLeg asked (Ok job) result
told asked job (Ok end) gives = (job, refl, gives.0, gives.1)
told asked job (Err fault) late = only (is_memory fault) (λ l. inr (job, refl, l)) late
