-- What the command `run` answers.
use Rattle.std.specs.Prelude.{◌≡◌, ◌⊎◌, ◌&&◌, ◌||◌, not, ℕ, List, [], ◌∷◌, Bool, true, false, Option, Some, None, is_some, option_map, Result, Err}
use Rattle.job_texts.specs.declared.fault.JobFault.{JobFault}
use Rattle.job_texts.specs.declared.fault.JobFault.TheVariants.{Number, Write}
use Rattle.job.specs.Ends.{OnThreads}
use Rattle.job.specs.Parallel.{parallel_said}
use Rattle.job.specs.Run.{Answers, run_said}
use Rattle.command_files.specs.Files.{CannotRead}
use Rattle.leg_command.specs.Receipts.{is_one_of}
use Rattle.leg_command.specs.Runs.{AnswersToldRun}
use Rattle.commands.specs.declared.run_words.RunWords.{RunWords}

-- beside a list of legs there is no parallelism and no receipt, and a table of names is one of a receipt
abbrev pub are_wrong : RunWords → Bool
are_wrong words = (is_some words.legs && (is_some words.parallelism || is_some words.receipt)) || (is_some words.names && not (is_some words.receipt))

-- the receipt would be written over a file that is read
abbrev pub overwrite : RunWords → Bool
overwrite words = is_one_of words.receipt (Some words.plan ∷ Some words.input ∷ words.names ∷ [])

-- what `job_run` answers of some plan and input, with a list of legs just where one is named, or that one of them, or
-- random numbers for hashes, were not read; with the word of a parallelism what `job_run_parallel` answers
abbrev pub AnswersRows : Bool → Option (List ℕ) → Result (Unit {0}) JobFault → Type 0
AnswersRows names_legs None result = CannotRead result ⊎ ((plan : List ℕ) × (input : List ℕ) × (legs : Option (List ℕ)) × (is_some legs ≡ names_legs) × Answers OnThreads (run_said plan input legs None) result None None)
AnswersRows names_legs (Some word) result = CannotRead result ⊎ ((plan : List ℕ) × (input : List ℕ) × Answers OnThreads (parallel_said plan input word) result None None)

-- and where a receipt is left, what comes of them
abbrev pub AnswersTold : Bool → RunWords → Result (Unit {0}) JobFault → Type 0
AnswersTold true words result = AnswersToldRun (option_map (λ word. word.now) words.parallelism) result
AnswersTold false words result = AnswersRows (is_some words.legs) (option_map (λ word. word.now) words.parallelism) result

-- nothing is written over a file that is read
abbrev pub if_apart : Bool → RunWords → Result (Unit {0}) JobFault → Type 0
if_apart true words result = result ≡ Err Write
if_apart false words result = AnswersTold (is_some words.receipt) words result

-- of words that do not go together, that there is no such number
abbrev pub if_right : Bool → RunWords → Result (Unit {0}) JobFault → Type 0
if_right true words result = result ≡ Err Number
if_right false words result = if_apart (overwrite words) words result

abbrev pub AnswersRun : RunWords → Result (Unit {0}) JobFault → Type 0
AnswersRun words result = if_right (are_wrong words) words result
