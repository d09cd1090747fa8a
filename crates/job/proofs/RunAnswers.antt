-- What the legs of a job answer, from what reading their list answers.
use Rattle.std.proofs.Common.{◌≡◌, ◌∙◌, ◌==◌, ℕ, Bool, true, false, List, length, Option, Some, None, Result, Ok, Err, MatchResult, refl, sym, ap, subst, inl, inr, if◌then◌else◌}
use Rattle.std.specs.Option.{option_and_then, option_map_or}
use Rattle.std.proofs.lemmas.Bool.{eqb-true}
use Rattle.json_parts.specs.Parts.{json_of, list_text}
use Rattle.serde_json.specs.Data.{Data}
use Rattle.plan_model.specs.PlanData.{PlanData}
use Rattle.stream_model.specs.InputData.{InputData}
use Rattle.stream_model.specs.PlanRows.{plan_rows}
use Rattle.leg_lists.specs.Answer as lists
use Rattle.leg_lists.specs.Answer.{if_legs, legs_of_bytes, legs_of_json, legs_or_fault}
use Rattle.leg_lists.specs.ChoicesText.{choice_text, choices_of_bytes, choices_said, choices_text}
use Rattle.legs.specs.declared.choice.Choice.{Choice}
use Rattle.leg_lists.specs.LegsText.{LegSaid, legs_text}
use Rattle.leg_lists.specs.Said.{◌>>=◌, legs_from}
use Rattle.legs.specs.Requirements.{are_legs}
use Rattle.legs.specs.declared.fault.LegFault.{LegFault}
use Rattle.legs.specs.declared.fault.LegFault.TheVariants as leg
use Rattle.legs.specs.declared.leg.LegSpec.{LegSpec}
use Rattle.job_texts.specs.declared.fault.JobFault.{JobFault}
use Rattle.job_texts.specs.Fault.{leg_fault, is_memory}
use Rattle.job_texts.specs.Text.{IsTextOf}
use Rattle.job_legs.specs.Ending.{IsLegsRefusal, IsThreadsRefusal}
use Rattle.job.specs.Ends.{as_job, Ends, OnThreads}
use Rattle.job.specs.Run.{run_job, RunRuns, IsRunText, IsWholeRefusal}
use Rattle.job.proofs.LegAnswers.{given}

-- the fault of a list is told as one of a job
pub legs_told : {X : Type 0} (said : Result X LegFault) (fault : LegFault) → lists.Fails lists.is_memory fault said → lists.Fails is_memory (leg_fault fault) (as_job leg_fault said)
legs_told said leg.Memory is = tt
legs_told said leg.StopRange is = ap (as_job leg_fault) is
legs_told said leg.SaveRange is = ap (as_job leg_fault) is
legs_told said leg.Legs is = ap (as_job leg_fault) is
legs_told said leg.NotJson is = ap (as_job leg_fault) is
legs_told said leg.Member is = ap (as_job leg_fault) is
legs_told said leg.Choices is = ap (as_job leg_fault) is
legs_told said leg.Threads is = ap (as_job leg_fault) is
legs_told said (leg.Scale place fault) is = given (is_memory (leg_fault (leg.Scale place fault))) (ap (as_job leg_fault) is)

-- what is read as a list of legs is one
of_if : (b : Bool) (found legs : List LegSpec) → are_legs found ≡ b → (if b then Ok found else Err leg.Legs) ≡ Ok legs → are_legs legs ≡ true
of_if true found legs is e = ap are_legs (sym cc) ∙ is
of_if false found legs is e = absurd cc

of_from : (r : Result (List LegSpec) LegFault) (legs : List LegSpec) → (r >>= if_legs) ≡ Ok legs → are_legs legs ≡ true
of_from (Ok found) legs e = of_if (are_legs found) found legs refl e
of_from (Err fault) legs e = absurd cc

of_text : (p : PlanData) (text : Option (List LegSaid)) (legs : List LegSpec) → option_map_or (legs_or_fault p) text (Err leg.Member) ≡ Ok legs → are_legs legs ≡ true
of_text p (Some text) legs e = of_from (legs_from p 0 text) legs e
of_text p None legs e = absurd cc

of_json : (p : PlanData) (d : Option Data) (legs : List LegSpec) → option_map_or (legs_of_json p) d (Err leg.NotJson) ≡ Ok legs → are_legs legs ≡ true
unfolding legs_of_json
of_json p (Some d) legs e = of_text p (legs_text d) legs e
of_json p None legs e = absurd cc

pub are_read : (p : PlanData) (bytes : List ℕ) (legs : List LegSpec) → legs_of_bytes p bytes ≡ Ok legs → are_legs legs ≡ true
unfolding legs_of_bytes
are_read p bytes legs e = of_json p (json_of bytes) legs e

neither : false ≡ true → ⊥
neither e = cc

-- what is read as the choices of so many legs has a list for each
of_count : (b : Bool) (legs : ℕ) (found choices : List (List Choice)) → (length found == legs) ≡ b → option_map_or Ok (let none : Option (List (List Choice)) = None in if b then Some found else none) (Err leg.Choices) ≡ Ok choices → length choices ≡ legs
of_count true legs found choices is e = ap length (sym cc) ∙ eqb-true (length found) legs is
of_count false legs found choices is e = absurd cc

of_lists : (legs : ℕ) (text : Option (List (List Choice))) (choices : List (List Choice)) → option_map_or Ok (option_and_then (λ found. let none : Option (List (List Choice)) = None in if length found == legs then Some found else none) text) (Err leg.Choices) ≡ Ok choices → length choices ≡ legs
of_lists legs (Some found) choices e = of_count (length found == legs) legs found choices refl e
of_lists legs None choices e = absurd cc

of_data : (legs : ℕ) (d : Option Data) (choices : List (List Choice)) → option_map_or Ok (option_and_then (choices_text legs) d) (Err leg.Choices) ≡ Ok choices → length choices ≡ legs
unfolding choices_text
of_data legs (Some d) choices e = of_lists legs (list_text (list_text choice_text) d) choices e
of_data legs None choices e = absurd cc

pub are_chosen : (legs : ℕ) (bytes : List ℕ) (choices : List (List Choice)) → choices_of_bytes legs bytes ≡ Ok choices → length choices ≡ legs
unfolding choices_of_bytes choices_said
are_chosen legs bytes choices e = of_data legs (json_of bytes) choices e

-- why legs have no rows
module _ (Other : JobFault → Type 0) {X : Type 0} (view : X → List ℕ) (p : PlanData) (i : InputData) (legs : List LegSpec) (list : are_legs legs ≡ true) (lists : ℕ) (each : lists ≡ length legs) where
  pub legs_fail : (fault : LegFault) → IsLegsRefusal i legs lists fault → Ends {X = X} Other RunRuns (λ job text. IsRunText job (view text)) (Ok (run_job p i (Some legs))) (Err (leg_fault fault))
  legs_fail leg.Memory why = tt
  legs_fail leg.StopRange why = inr (run_job p i (Some legs), refl, inl (leg.StopRange, refl, why.2))
  legs_fail leg.SaveRange why = inr (run_job p i (Some legs), refl, inl (leg.SaveRange, refl, why.2))
  legs_fail leg.Legs why = absurd (neither (sym why ∙ list))
  legs_fail leg.Choices why = absurd (why.1 each)
  legs_fail leg.NotJson why = absurd why
  legs_fail leg.Threads why = absurd why
  legs_fail leg.Member why = absurd why
  legs_fail (leg.Scale place fault) why = absurd why

-- and why legs on threads have none
module _ {X : Type 0} (view : X → List ℕ) (p : PlanData) (i : InputData) (legs : List LegSpec) (list : are_legs legs ≡ true) where
  as_without : (fault : LegFault) → IsLegsRefusal i legs (length legs) fault → Ends {X = X} OnThreads RunRuns (λ job text. IsRunText job (view text)) (Ok (run_job p i (Some legs))) (Err (leg_fault fault))
  as_without fault why = legs_fail OnThreads view p i legs list (length legs) refl fault why

  pub threads_fail : (fault : LegFault) → IsThreadsRefusal i legs fault → Ends {X = X} OnThreads RunRuns (λ job text. IsRunText job (view text)) (Ok (run_job p i (Some legs))) (Err (leg_fault fault))
  threads_fail leg.Threads why = inr (run_job p i (Some legs), refl, inr refl)
  threads_fail leg.Memory why = as_without leg.Memory why
  threads_fail leg.StopRange why = as_without leg.StopRange why
  threads_fail leg.SaveRange why = as_without leg.SaveRange why
  threads_fail leg.Legs why = as_without leg.Legs why
  threads_fail leg.Choices why = as_without leg.Choices why
  threads_fail leg.NotJson why = as_without leg.NotJson why
  threads_fail leg.Member why = as_without leg.Member why
  threads_fail (leg.Scale place fault) why = as_without (leg.Scale place fault) why

-- a job that runs as one leg
pub alone : {X : Type 0} (view : X → List ℕ) (p : PlanData) (i : InputData) (result : Result X JobFault) → MatchResult result (λ text. IsTextOf (plan_rows p i.sources) (view text)) IsWholeRefusal
    → Ends {X = X} OnThreads RunRuns (λ job text. IsRunText job (view text)) (Ok (run_job p i None)) result
alone view p i (Ok text) is = (run_job p i None, refl, tt, is)
alone {X} view p i (Err fault) (inl memory) = subst (λ f. Ends {X = X} OnThreads RunRuns (λ job text. IsRunText job (view text)) (Ok (run_job p i None)) (Err f)) (sym memory) tt
alone view p i (Err fault) (inr threads) = given (is_memory fault) (inr (run_job p i None, refl, inr threads))
