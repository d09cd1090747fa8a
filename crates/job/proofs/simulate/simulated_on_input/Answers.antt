use Rattle.std.proofs.Common.{ap, string_bytes, Some}
use Rattle.leg_lists.specs.Answer.{legs_of_bytes}
use Rattle.job_texts.specs.Fault.{leg_fault}
use Rattle.job.specs.Ends.{as_job, InOneThread}
use Rattle.job.specs.Run.{RunRuns, IsRunText, choices_in, legs_in}
use Rattle.job.proofs.LegAnswers.{read, refused}
use Rattle.job.proofs.RunAnswers.{are_read, legs_told}
use Rattle.job.proofs.ChosenTexts.{so}
use Rattle.job.proofs.simulate.simulated_on_input.Goals as goal

pub returns-in_err-legs-clause-answers : goal.returns-in_err-legs-clause-answers
unfolding legs_in
returns-in_err-legs-clause-answers c =
    let p = c.args.plan.now in
    let said = legs_of_bytes p c.args.legs.now in
    let f = c.in_err-legs.field-0.0 in
    refused InOneThread RunRuns (λ job text. IsRunText job (string_bytes text)) (λ legs. choices_in p c.args.input.now legs (Some c.args.choices.now)) (as_job leg_fault said) (leg_fault f) c.from_residual.result c.from_residual.ensures.0 c.from_residual.ensures.1 (legs_told said f c.in_err-legs.ensures.reads)

pub text_chosen-requires-clause-list : goal.text_chosen-requires-clause-list
text_chosen-requires-clause-list c = are_read c.args.plan.now c.args.legs.now c.in_ok-legs.legs.items c.in_ok-legs.ensures.reads

pub returns-clause-answers : goal.returns-clause-answers
unfolding legs_in
returns-clause-answers c =
    let p = c.args.plan.now in
    read InOneThread RunRuns (λ job text. IsRunText job (string_bytes text)) (λ legs. choices_in p c.args.input.now legs (Some c.args.choices.now)) (as_job leg_fault (legs_of_bytes p c.args.legs.now)) c.in_ok-legs.legs.items
    c.text_chosen.result (ap (as_job leg_fault) c.in_ok-legs.ensures.reads) c.text_chosen.ensures.answers

pub returns-clause-chosen : goal.returns-clause-chosen
returns-clause-chosen c = so c.text_chosen.result _ _ (λ text by. (c.in_ok-legs.legs.items, c.in_ok-legs.ensures.reads, by)) c.text_chosen.ensures.chosen
