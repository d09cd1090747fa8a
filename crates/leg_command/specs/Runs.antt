-- What the command `run` answers that leaves a receipt.
use Rattle.std.specs.Prelude.{◌⊎◌, ℕ, List, [], Option, Some, None, Result}
use Rattle.job_texts.specs.declared.fault.JobFault.{JobFault}
use Rattle.job.specs.Ends.{OnThreads}
use Rattle.job.specs.Parallel.{parallel_said}
use Rattle.job.specs.Run.{Answers, RunJob, run_said}
use Rattle.command_files.specs.Files.{CannotRead}
use Rattle.leg_command.specs.Answers.{after_made}

-- the job that texts say, in so many subtasks where a word spells them
abbrev pub whole_said : List ℕ → List ℕ → Option (List ℕ) → Result RunJob JobFault
whole_said plan input None = run_said plan input None None
whole_said plan input (Some word) = parallel_said plan input word

-- what comes of its rows, which go into memory
abbrev pub ComesOfRun : Result RunJob JobFault → Result (Unit {0}) JobFault → Type 0
ComesOfRun said result = (made : Result (Unit {0}) JobFault) × (rows : List ℕ) × Answers OnThreads said made (Some []) (Some rows) × after_made made result

-- of some plan and input, or that a file was not read
abbrev pub AnswersToldRun : Option (List ℕ) → Result (Unit {0}) JobFault → Type 0
AnswersToldRun parallelism result = CannotRead result ⊎ ((plan : List ℕ) × (input : List ℕ) × ComesOfRun (whole_said plan input parallelism) result)
