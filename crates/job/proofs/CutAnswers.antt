-- What is told of cuts is never that a text was not written.
use Rattle.std.proofs.Common.{◌≢◌, ℕ, ℤ, List, Option, Some, None, Ok, Err}
use Rattle.std.specs.Option.{option_map_or}
use Rattle.plan_model.specs.PlanData.{PlanData}
use Rattle.logical_plan.specs.Answer.{plan_of_bytes}
use Rattle.stream_model.specs.InputData.{InputData}
use Rattle.input_texts.specs.Answer.{input_of_bytes}
use Rattle.cut_texts.specs.Times.{time_said, watermark_before}
use Rattle.input_cuts.specs.Cuts.{first_cut}
use Rattle.job_texts.specs.declared.fault.JobFault.TheVariants.{Plan, Input, Number, Write}
use Rattle.job.specs.declared.cuts.CutQuestion.{CutQuestion}
use Rattle.job.specs.declared.cuts.CutQuestion.TheVariants.{Extents, Until, Open}
use Rattle.job.specs.Cuts.{cut_line, until_said, cuts_of, cuts_by, cuts_said}
use Rattle.job.proofs.TextAnswers.{unwritten}

until_unwritten : (i : InputData) (word : List ℕ) → until_said i word ≢ Err Write
until_unwritten i word = by_case (time_said word)
  where
    by_case : (time : Option ℤ) → option_map_or (λ t. Ok (cut_line (first_cut (watermark_before t) i.sources))) time (Err Number) ≢ Err Write
    by_case (Some t) e = absurd cc
    by_case None e = absurd cc

cuts_of_unwritten : (p : PlanData) (i : InputData) (question : CutQuestion) → cuts_of p i question ≢ Err Write
unfolding cuts_of
cuts_of_unwritten p i Extents e = absurd cc
cuts_of_unwritten p i (Until word) e = until_unwritten i word.now e
cuts_of_unwritten p i Open e = absurd cc

cuts_by_unwritten : (p : PlanData) (input : List ℕ) (question : CutQuestion) → cuts_by p input question ≢ Err Write
unfolding cuts_by
cuts_by_unwritten p input question = unwritten Input (λ i. cuts_of p i question) (input_of_bytes p input) (λ f e. absurd cc) (λ i. cuts_of_unwritten p i question)

pub cuts_unwritten : (plan input : List ℕ) (question : CutQuestion) → cuts_said plan input question ≢ Err Write
unfolding cuts_said
cuts_unwritten plan input question = unwritten Plan (λ p. cuts_by p input question) (plan_of_bytes plan) (λ f e. absurd cc) (λ p. cuts_by_unwritten p input question)
