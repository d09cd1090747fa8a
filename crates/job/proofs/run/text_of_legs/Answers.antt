use Rattle.std.proofs.Common.{ap, string_bytes, None}
use Rattle.leg_lists.specs.Answer.{legs_of_bytes}
use Rattle.job_texts.specs.Fault.{leg_fault}
use Rattle.job.specs.Ends.{as_job, OnThreads}
use Rattle.job.specs.Run.{RunRuns, IsRunText, choices_in, legs_in}
use Rattle.job.proofs.LegAnswers.{read, refused}
use Rattle.job.proofs.RunAnswers.{are_read, legs_told}
use Rattle.job.proofs.run.text_of_legs.Goals as goal

pub returns-in_err-legs : goal.returns-in_err-legs
unfolding legs_in
returns-in_err-legs g c =
    let p = c.args.plan.now in
    let said = legs_of_bytes p c.args.legs.now in
    let f = c.in_err-legs.field-0.0 in
    refused OnThreads RunRuns (λ job text. IsRunText job (string_bytes text)) (λ legs. choices_in p c.args.input.now legs None) (as_job leg_fault said) (leg_fault f) c.from_residual.result c.from_residual.ensures.0 c.from_residual.ensures.1 (legs_told said f c.in_err-legs.ensures.reads)

pub text_of_list-requires-clause-list : goal.text_of_list-requires-clause-list
text_of_list-requires-clause-list g c = λ _ _. are_read c.args.plan.now c.args.legs.now c.in_ok-legs.legs.items c.in_ok-legs.ensures.reads

pub returns : goal.returns
unfolding legs_in choices_in
returns g c =
    let p = c.args.plan.now in
    let i = c.args.input.now in
    read OnThreads RunRuns (λ job text. IsRunText job (string_bytes text)) (λ legs. choices_in p i legs None) (as_job leg_fault (legs_of_bytes p c.args.legs.now)) c.in_ok-legs.legs.items
    c.text_of_list.result (ap (as_job leg_fault) c.in_ok-legs.ensures.reads) c.text_of_list.ensures
