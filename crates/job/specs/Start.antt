-- Whether a leg of a job can begin.
use Rattle.std.specs.Prelude.{Result}
use Rattle.job_texts.specs.declared.fault.JobFault.{JobFault}
use Rattle.job.specs.Ends.{Ends, InOneThread}
use Rattle.job.specs.Leg.{LegJob, LegRuns}

-- Ok where texts say a leg that can run as it is to; else the refusal is the first that the texts give, or why the leg
-- cannot run so
abbrev pub BeginsLeg : Result LegJob JobFault → Result (Unit {0}) JobFault → Type 0
BeginsLeg said result = Ends InOneThread LegRuns (λ job begun. Unit {0}) said result
