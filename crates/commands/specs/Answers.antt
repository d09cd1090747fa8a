-- What the program's commands answer. Nothing can be said of what files hold and of what standard output takes, and so
-- these say which answers the texts of files allow, whatever they are.
use Rattle.std.specs.Prelude.{◌≡◌, ◌⊎◌, ℕ, List, Bool, true, false, Option, Some, None, Result, Err}
use Rattle.job_texts.specs.declared.fault.JobFault.{JobFault}
use Rattle.job_texts.specs.declared.fault.JobFault.TheVariants.{Number}
use Rattle.job_texts.specs.Group.{TellsGroup, group_said}
use Rattle.std.specs.Borrow.{Bor}
use Rattle.job.specs.Cuts.{TellsCuts, cuts_said}
use Rattle.job.specs.declared.cuts.CutQuestion.{CutQuestion}
use Rattle.job.specs.declared.cuts.CutQuestion.TheVariants.{Extents, Until, Open}
use Rattle.job.specs.Ends.{InOneThread}
use Rattle.job.specs.Layout.{TellsLayout, layout_said}
use Rattle.job.specs.Run.{Answers, run_said}
use Rattle.job.specs.Show.{TellsShow}
use Rattle.command_files.specs.Files.{CannotRead}
use Rattle.fault_pages.specs.Pages.{TellsPage, explained}
use Rattle.user_texts.specs.declared.writing.TextFault.{TextFault}

-- what `job_simulate` answers of some plan, input, list of legs and choices, or that one of them, or random numbers for
-- hashes, were not read
abbrev pub AnswersSimulate : Result (Unit {0}) JobFault → Type 0
AnswersSimulate result = CannotRead result ⊎ ((plan : List ℕ) × (input : List ℕ) × (legs : List ℕ) × (choices : List ℕ) × Answers InOneThread (run_said plan input (Some legs) (Some choices)) result None None)

-- what is asked of an input where a time is named, or an open cut; of both at once nothing
abbrev pub IsQuestion : Option (List ℕ) → Bool → Option CutQuestion → Type 0
IsQuestion None false question = question ≡ Some Extents
IsQuestion None true question = question ≡ Some Open
IsQuestion (Some word) true question = question ≡ None
IsQuestion (Some word) false None = ⊥
IsQuestion (Some word) false (Some question) = (spelled : Bor (List ℕ)) × (question ≡ Until spelled) × (spelled.now ≡ word)

-- what `job_cuts` answers of some plan and input, or that one of them was not read; that there is no such number, where
-- nothing is asked
abbrev pub AnswersQuestion : Option CutQuestion → Result (Unit {0}) JobFault → Type 0
AnswersQuestion None result = result ≡ Err Number
AnswersQuestion (Some question) result = CannotRead result ⊎ ((plan : List ℕ) × (input : List ℕ) × TellsCuts (cuts_said plan input question) result None None)

abbrev pub AnswersCuts : Option (List ℕ) → Bool → Result (Unit {0}) JobFault → Type 0
AnswersCuts until stays_open result = (question : Option CutQuestion) × IsQuestion until stays_open question × AnswersQuestion question result

-- what `job_layout` answers of some plan and scale, or that one of them was not read
abbrev pub AnswersLayout : Result (Unit {0}) JobFault → Type 0
AnswersLayout result = CannotRead result ⊎ ((plan : List ℕ) × (scale : List ℕ) × TellsLayout (layout_said plan scale) result None None)

-- what `job_show` answers of some savepoint, with a word or with none, or that it was not read
abbrev pub AnswersShow : Option (List ℕ) → Result (Unit {0}) JobFault → Type 0
AnswersShow group result = CannotRead result ⊎ ((savepoint : List ℕ) × TellsShow savepoint group result None None)

-- what `job_group` answers of three words
abbrev pub AnswersGroup : List ℕ → List ℕ → List ℕ → Result (Unit {0}) JobFault → Type 0
AnswersGroup key max par result = TellsGroup (group_said key max par) result None None

-- what `explain` answers of a code
abbrev pub AnswersExplain : List ℕ → Result (Unit {0}) TextFault → Type 0
AnswersExplain code result = TellsPage (explained code) result None None
