-- What a call answers that reads texts and does the job that they say.
use Rattle.std.specs.Prelude.{◌≡◌, ◌⊎◌, Option, Some, None, Result, Ok, Err}
use Rattle.std.specs.Result.{result_map_both}
use Rattle.answers.specs.Answer.{unless}
use Rattle.legs.specs.declared.fault.LegFault.{LegFault}
use Rattle.legs.specs.declared.fault.LegFault.TheVariants.{Threads}
use Rattle.job_texts.specs.declared.fault.JobFault.{JobFault}
use Rattle.job_texts.specs.declared.fault.JobFault.TheVariants.{Leg, Write}
use Rattle.job_texts.specs.Fault.{is_memory}

-- an answer that goes on with another, unless it is a fault
abbrev pub and_then : {X Y : Type 0} → (X → Result Y JobFault) → Result X JobFault → Result Y JobFault
and_then next (Ok x) = next x
and_then next (Err fault) = Err fault

-- a reader's answer, with its fault as one of a job
abbrev pub as_job : {X F : Type 0} → (F → JobFault) → Result X F → Result X JobFault
as_job fault_of said = result_map_both (λ x. x) fault_of said

-- what legs may be refused for besides: nothing, in one thread, and want of a thread, on threads
abbrev pub InOneThread : JobFault → Type 0
InOneThread fault = ⊥

abbrev pub OnThreads : JobFault → Type 0
OnThreads fault = fault ≡ Leg Threads

-- why a job that was read does not run: one of its legs cannot run so, or what its legs may be refused for besides
abbrev pub IsHalted : {J : Type 0} → (JobFault → Type 0) → (J → Option LegFault → Type 0) → J → JobFault → Type 0
IsHalted Other Runs job fault = ((why : LegFault) × (fault ≡ Leg why) × Runs job (Some why)) ⊎ Other fault

-- where the answer is Ok, it is of the job that texts say, whose legs can run so; else the refusal is the first that
-- the texts give, or that of a job that does not run. Runs says of a job that it can run so, and with a fault that it
-- cannot, and that this is why
abbrev pub Ends : {J X : Type 0} → (JobFault → Type 0) → (J → Option LegFault → Type 0) → (J → X → Type 0) → Result J JobFault → Result X JobFault → Type 0
Ends {J} Other Runs Is said (Ok x) = (job : J) × (said ≡ Ok job) × Runs job None × Is job x
Ends {J} Other Runs Is said (Err fault) = unless (is_memory fault) ((said ≡ Err fault) ⊎ ((job : J) × (said ≡ Ok job) × IsHalted Other Runs job fault))

-- what always can run
abbrev pub always : {J : Type 0} → J → Option LegFault → Type 0
always job None = Unit {0}
always job (Some fault) = ⊥

-- why a job that was read is not done: it does not run, or what it gives cannot be written
abbrev pub IsLate : {J : Type 0} → (JobFault → Type 0) → (J → Option LegFault → Type 0) → J → JobFault → Type 0
IsLate Other Runs job fault = IsHalted Other Runs job fault ⊎ ((fault ≡ Write) × Runs job None)

-- where the answer is Ok, the job is done; else the refusal is the first that the texts give, or one of the job that
-- they say
abbrev pub Does : {J X : Type 0} → (JobFault → Type 0) → (J → Option LegFault → Type 0) → (J → X → Type 0) → Result J JobFault → Result X JobFault → Type 0
Does {J} Other Runs Done said (Ok x) = (job : J) × (said ≡ Ok job) × Runs job None × Done job x
Does {J} Other Runs Done said (Err fault) = unless (is_memory fault) ((said ≡ Err fault) ⊎ ((job : J) × (said ≡ Ok job) × IsLate Other Runs job fault))
