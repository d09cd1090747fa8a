-- What the command `check` answers.
use Rattle.std.specs.Prelude.{◌≡◌, ◌⊎◌, ◌&&◌, ◌||◌, ℕ, List, Bool, true, false, not, Option, Some, None, is_some, option_map, Result, Ok, Err}
use Rattle.std.specs.Option.{option_or}
use Rattle.job_texts.specs.declared.fault.JobFault.{JobFault}
use Rattle.job_texts.specs.declared.fault.JobFault.TheVariants.{Plan, Input, Number}
use Rattle.job_texts.specs.Fault.{plan_fault, scale_fault}
use Rattle.job.specs.Ends.{and_then, as_job}
use Rattle.job.specs.Leg.{LegJob, job_with, leg_on, leg_said, words as leg_words}
use Rattle.job.specs.Start.{BeginsLeg}
use Rattle.plan_model.specs.PlanData.{PlanData}
use Rattle.stream_model.specs.InputData.{InputData}
use Rattle.logical_plan.specs.Answer as plans
use Rattle.logical_plan.specs.declared.fault.PlanFault.{PlanFault}
use Rattle.input_texts.specs.Answer.{input_of_bytes}
use Rattle.plan_scale.specs.Answer as scales
use Rattle.fault_places.specs.Answer as places
use Rattle.command_files.specs.Files.{CannotRead}
use Rattle.commands.specs.declared.check_words.CheckWords.{CheckWords}

-- what checking one text answers, where there is one: Ok where it meets what is asked, else its first fault, unless
-- memory ran out
abbrev pub ChecksPart : {F Y : Type 0} → (F → Bool) → (F → JobFault) → (List ℕ → Result Y F) → Option (List ℕ) → Result (Unit {0}) JobFault → Type 0
ChecksPart is_memory fault_of said None result = result ≡ Ok tt
ChecksPart {F} is_memory fault_of said (Some bytes) result = (answer : Result (Unit {0}) F) × places.AnswersCheck is_memory (said bytes) answer × (result ≡ as_job fault_of answer)

-- the leg that a savepoint and a cut say with a plan and an input that were read, at any scale where none is named
abbrev pub begins_on : PlanData → InputData → Option (List ℕ) → Option (List ℕ) → Option (List ℕ) → Result LegJob JobFault
begins_on p i None from stop = job_with p i from (leg_words None stop)
begins_on p i (Some scale) from stop = leg_on p i scale from (leg_words None stop)

-- and with a plan, and with texts
abbrev pub begins_by : PlanData → List ℕ → Option (List ℕ) → Option (List ℕ) → Option (List ℕ) → Result LegJob JobFault
begins_by p input scale from stop = and_then (λ i. begins_on p i scale from stop) (as_job Input (input_of_bytes p input))

abbrev pub begins_said : List ℕ → List ℕ → Option (List ℕ) → Option (List ℕ) → Result LegJob JobFault
begins_said plan input from stop = and_then (λ p. begins_by p input None from stop) (as_job Plan (plans.plan_of_bytes plan))

-- with an input the answer is that of `leg` for the same texts, before its first step; where no scale is named, but for
-- that
abbrev pub IsAsLeg : List ℕ → List ℕ → Option (List ℕ) → Option (List ℕ) → Option (List ℕ) → Result (Unit {0}) JobFault → Type 0
IsAsLeg plan input (Some scale) from stop result = BeginsLeg (leg_said plan input scale from (leg_words None stop)) result
IsAsLeg plan input None from stop result = BeginsLeg (begins_said plan input from stop) result

-- of a plan that was read: its scale alone, or its input, scale and leg
abbrev pub ChecksParts : PlanData → Option (List ℕ) → Option (List ℕ) → Option (List ℕ) → Option (List ℕ) → Result (Unit {0}) JobFault → Type 0
ChecksParts p None scale from stop result = ChecksPart scales.is_memory scale_fault (scales.scale_of_bytes p) scale result
ChecksParts p (Some input) scale from stop result = BeginsLeg (begins_by p input scale from stop) result

-- of a plan and a scale without an input
abbrev pub ChecksPlan : List ℕ → Option (List ℕ) → Result (Unit {0}) JobFault → Type 0
ChecksPlan plan scale result =
    ((fault : PlanFault) × plans.Fails plans.is_memory fault (plans.plan_of_bytes plan) × (result ≡ Err (plan_fault fault)))
    ⊎ ((p : PlanData) × (plans.plan_of_bytes plan ≡ Ok p) × ChecksPart scales.is_memory scale_fault (scales.scale_of_bytes p) scale result)

abbrev pub ChecksTexts : List ℕ → Option (List ℕ) → Option (List ℕ) → Option (List ℕ) → Option (List ℕ) → Result (Unit {0}) JobFault → Type 0
ChecksTexts plan None scale from stop result = ChecksPlan plan scale result
ChecksTexts plan (Some input) scale from stop result = IsAsLeg plan input scale from stop result

-- a savepoint or a cut is named, and no input that they are of; or a scale behind the input, and one as an option
abbrev pub are_wrong : CheckWords → Bool
are_wrong words = (not (is_some words.input) && (is_some words.from || is_some words.stop)) || (is_some words.scale && is_some words.scale_option)

-- of some texts of files, an input, a scale and a savepoint just where they are named, or a file was not read
abbrev pub ChecksFiles : CheckWords → Result (Unit {0}) JobFault → Type 0
ChecksFiles words result =
    CannotRead result
    ⊎ ((plan : List ℕ) × (input : Option (List ℕ)) × (scale : Option (List ℕ)) × (from : Option (List ℕ))
    × (is_some input ≡ is_some words.input) × (is_some scale ≡ is_some (option_or words.scale words.scale_option)) × (is_some from ≡ is_some words.from)
    × ChecksTexts plan input scale from (option_map (λ word. word.now) words.stop) result)

-- that there is no such number, of words that do not go together
abbrev pub AnswersWords : Bool → CheckWords → Result (Unit {0}) JobFault → Type 0
AnswersWords true words result = result ≡ Err Number
AnswersWords false words result = ChecksFiles words result

abbrev pub AnswersCheck : CheckWords → Result (Unit {0}) JobFault → Type 0
AnswersCheck words result = AnswersWords (are_wrong words) words result
