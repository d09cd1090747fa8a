-- What telling of the cuts of an input answers.
use Rattle.std.specs.Prelude.{ℕ, List, [], ◌∷◌, ◌++◌, map, Option, Result, Ok, Err}
use Rattle.std.specs.Io.KnownBytes.{Appends}
use Rattle.std.specs.Option.{option_map_or}
use Rattle.plan_model.specs.PlanData.{PlanData}
use Rattle.logical_plan.specs.Answer.{plan_of_bytes}
use Rattle.stream_model.specs.InputData.{InputData}
use Rattle.input_texts.specs.Answer.{input_of_bytes}
use Rattle.input_cuts.specs.Cuts.{first_cut, open_cut}
use Rattle.input_cuts.specs.Extents.{extent_of}
use Rattle.cut_texts.specs.Extents.{extents_text}
use Rattle.cut_texts.specs.Times.{time_said, watermark_before}
use Rattle.cut_texts.specs.Words.{cut_text}
use Rattle.job_texts.specs.declared.fault.JobFault.{JobFault}
use Rattle.job_texts.specs.declared.fault.JobFault.TheVariants.{Plan, Input, Number}
use Rattle.job_texts.specs.Tells.{Tells}
use Rattle.job.specs.declared.cuts.CutQuestion.{CutQuestion}
use Rattle.job.specs.declared.cuts.CutQuestion.TheVariants.{Extents, Until, Open}
use Rattle.job.specs.Ends.{and_then, as_job}

-- the word of a cut in a line
abbrev pub cut_line : List (List ℕ) → List ℕ
cut_line counts = cut_text counts ++ 10 ∷ []

-- the first cut at which every window that ends by the time is due that a word spells
abbrev pub until_said : InputData → List ℕ → Result (List ℕ) JobFault
until_said i word = option_map_or (λ time. Ok (cut_line (first_cut (watermark_before time) i.sources))) (time_said word) (Err Number)

-- how far each partition goes; the first cut at which every window that ends by a time is due; or the last cut that
-- leaves an entry of each partition
unfoldable pub cuts_of : PlanData → InputData → CutQuestion → Result (List ℕ) JobFault
cuts_of p i Extents = Ok (extents_text p.sources (map (map (extent_of i.time)) i.sources))
cuts_of p i (Until word) = until_said i word.now
cuts_of p i Open = Ok (cut_line (open_cut i.sources))

-- with a plan that was read
unfoldable pub cuts_by : PlanData → List ℕ → CutQuestion → Result (List ℕ) JobFault
cuts_by p input question = and_then (λ i. cuts_of p i question) (as_job Input (input_of_bytes p input))

-- of the plan and the input that the bytes are, or the first refusal: the plan's, else the input's, else that a word is
-- no time
unfoldable pub cuts_said : List ℕ → List ℕ → CutQuestion → Result (List ℕ) JobFault
cuts_said plan input question = and_then (λ p. cuts_by p input question) (as_job Plan (plan_of_bytes plan))

abbrev pub TellsCuts : Result (List ℕ) JobFault → Result (Unit {0}) JobFault → Option (List ℕ) → Option (List ℕ) → Type 0
TellsCuts said result old new = Tells (λ text. Appends old new text) said result
