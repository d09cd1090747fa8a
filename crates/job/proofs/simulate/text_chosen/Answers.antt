use Rattle.std.proofs.Common.{◌≡◌, ◌∙◌, Ok, Some, ap, sym, subst, string_bytes, length}
use Rattle.leg_lists.specs.Answer as lists
use Rattle.leg_lists.specs.ChoicesText.{choices_of_bytes}
use Rattle.job_texts.specs.Fault.{leg_fault}
use Rattle.job.specs.Ends.{as_job, InOneThread}
use Rattle.job.specs.Run.{RunRuns, IsRunText, choices_in, run_job}
use Rattle.job.proofs.LegAnswers.{read, refused}
use Rattle.job.proofs.RunAnswers.{are_chosen, legs_told}
use Rattle.job.proofs.ChosenTexts.{so}
use Rattle.job.proofs.simulate.text_chosen.Goals as goal

pub returns-in_err-choices-clause-answers : goal.returns-in_err-choices-clause-answers
unfolding choices_in
returns-in_err-choices-clause-answers c =
    let bytes = c.args.choices.now in
    let said = choices_of_bytes (length c.args.legs.items) bytes in
    let f = c.in_err-choices.field-0.0 in
    refused InOneThread RunRuns (λ job text. IsRunText job (string_bytes text)) (λ choices. Ok (run_job c.args.plan.now c.args.input.now (Some c.args.legs.items))) (as_job leg_fault said) (leg_fault f) c.from_residual.result c.from_residual.ensures.0 c.from_residual.ensures.1
    (legs_told said f (subst (λ n. lists.Fails lists.is_memory f (choices_of_bytes n bytes)) (c.len.ensures ∙ c.args.legs.ok.0) c.in_err-choices.ensures))

pub text_by-requires-clause-choices : goal.text_by-requires-clause-choices
text_by-requires-clause-choices c = ap length c.as_slice.ensures ∙ are_chosen c.len.result c.args.choices.now c.in_ok-choices.choices c.in_ok-choices.ensures ∙ (c.len.ensures ∙ c.args.legs.ok.0)

pub returns-clause-answers : goal.returns-clause-answers
unfolding choices_in
returns-clause-answers c =
    let bytes = c.args.choices.now in
    read InOneThread RunRuns (λ job text. IsRunText job (string_bytes text)) (λ choices. Ok (run_job c.args.plan.now c.args.input.now (Some c.args.legs.items))) (as_job leg_fault (choices_of_bytes (length c.args.legs.items) bytes)) c.in_ok-choices.choices
    c.text_by.result (ap (as_job leg_fault) (subst (λ n. choices_of_bytes n bytes ≡ Ok c.in_ok-choices.choices) (c.len.ensures ∙ c.args.legs.ok.0) c.in_ok-choices.ensures)) c.text_by.ensures.answers

pub returns-clause-chosen : goal.returns-clause-chosen
returns-clause-chosen c =
    let read = subst (λ n. choices_of_bytes n c.args.choices.now ≡ Ok c.in_ok-choices.choices) (c.len.ensures ∙ c.args.legs.ok.0) c.in_ok-choices.ensures in
    so c.text_by.result _ _ (λ text by. (c.as_slice.result.now, read ∙ ap Ok (sym c.as_slice.ensures), by)) c.text_by.ensures.chosen
