-- What the command `split` answers. Nothing can be said of what files hold.
use Rattle.std.specs.Prelude.{◌≡◌, ◌⊎◌, ℕ, min, List, Result, Ok, Err}
use Rattle.std.specs.Option.{option_map_or}
use Rattle.key_groups.specs.declared.limits.TheConstants.{MOST_SUBTASKS}
use Rattle.plan_model.specs.PlanData.{PlanData}
use Rattle.stream_model.specs.InputData.{InputData}
use Rattle.logical_plan.specs.Answer.{plan_of_bytes}
use Rattle.input_texts.specs.Answer.{input_of_bytes}
use Rattle.job_texts.specs.declared.fault.JobFault.{JobFault}
use Rattle.job_texts.specs.declared.fault.JobFault.TheVariants.{Plan, Input, Number, Write, Memory}
use Rattle.job_texts.specs.Group.{number_said}
use Rattle.job_texts.specs.Tells.{Tells}
use Rattle.job_texts.specs.Ends.{and_then, as_job}
use Rattle.command_files.specs.Files.{CannotRead}

-- how many parts a word spells of a plan with so many key groups: 1 to the lesser of 64 and these
abbrev pub parts_said : ℕ → List ℕ → Result ℕ JobFault
parts_said max word = option_map_or Ok (number_said 5 1 (min max MOST_SUBTASKS) word) (Err Number)

-- the input that is split, or the first refusal: the plan's, else that there is no such number of parts, else the
-- input's
abbrev pub split_by : PlanData → List ℕ → List ℕ → Result InputData JobFault
split_by p input word = and_then (λ n. as_job Input (input_of_bytes p input)) (parts_said p.max word)

unfoldable pub split_said : List ℕ → List ℕ → List ℕ → Result InputData JobFault
split_said plan input word = and_then (λ p. split_by p input word) (as_job Plan (plan_of_bytes plan))

-- a part is not written, or there is no memory
abbrev pub IsUnwritten : JobFault → Type 0
IsUnwritten fault = (fault ≡ Write) ⊎ (fault ≡ Memory)

-- what the texts say is split, or refused; a part that cannot be written comes after all are read
abbrev pub SplitsTexts : List ℕ → List ℕ → List ℕ → Result (Unit {0}) JobFault → Type 0
SplitsTexts plan input word result = Tells (λ (i : InputData). Unit {0}) (split_said plan input word) result

-- so of some plan and input, or one of them was not read
abbrev pub AnswersSplit : List ℕ → Result (Unit {0}) JobFault → Type 0
AnswersSplit word result = CannotRead result ⊎ ((plan : List ℕ) × (input : List ℕ) × SplitsTexts plan input word result)
