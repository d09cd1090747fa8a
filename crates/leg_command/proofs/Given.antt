-- What a leg gives whose rows are written into memory, where nothing stood before.
use Rattle.std.proofs.Common.{◌≡◌, ℕ, List, [], Option, Some, Result, Ok, Err, subst}
use Rattle.job_texts.specs.declared.fault.JobFault.{JobFault}
use Rattle.job.specs.Ends.{Does, OnThreads}
use Rattle.job.specs.Leg.{LegJob, LegLeft, LegRuns}
use Rattle.leg_command.specs.Answers.{LegAnswer, after_leg}

module _ {X : Type 0} (view : X → LegLeft) (Done : Option (List ℕ) → Option (List ℕ) → LegJob → LegLeft → Type 0) (said : Result LegJob JobFault) (old rows : List ℕ) (none : old ≡ []) where
  pub come : (answer : Result X JobFault) → Does OnThreads LegRuns (λ job left. Done (Some old) (Some rows) job (view left)) said answer → (result : Result (Unit {0}) JobFault) → after_leg (λ left. (view left).abandoned) answer result
      → (given : LegAnswer) × Does OnThreads LegRuns (λ job left. Done (Some []) (Some given.1) job left) said given.0 × after_leg (λ left. left.abandoned) given.0 result
  come (Ok left) tells result after = ((Ok (view left), rows), subst (λ z. Does {J = LegJob} {X = LegLeft} OnThreads LegRuns (λ job given. Done (Some z) (Some rows) job given) said (Ok (view left))) none tells, after)
  come (Err fault) tells result after = ((Err fault, rows), tells, after)
