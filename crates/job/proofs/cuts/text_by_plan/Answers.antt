use Rattle.std.proofs.Common.{ap, string_bytes}
use Rattle.input_texts.specs.Answer.{input_of_bytes}
use Rattle.job_texts.specs.declared.fault.JobFault.TheVariants.{Input}
use Rattle.job_texts.specs.Fault.{input_fault}
use Rattle.job.specs.Cuts.{cuts_of, cuts_by}
use Rattle.job.specs.Ends.{as_job}
use Rattle.job.proofs.LegAnswers.{input_told, told_of}
use Rattle.job.proofs.TextAnswers.{read, refused}
use Rattle.job.proofs.cuts.text_by_plan.Goals as goal

pub returns-in_err-input : goal.returns-in_err-input
unfolding cuts_by
returns-in_err-input c =
    let said = input_of_bytes c.args.plan.now c.args.input.items in
    let f = c.in_err-input.field-0.0 in
    refused string_bytes (λ i. cuts_of c.args.plan.now i c.args.question) (as_job Input said) (input_fault f) c.from_residual.result c.from_residual.ensures.0 c.from_residual.ensures.1
    (told_of said Input (input_fault f) (input_told said f c.in_err-input.ensures.reads))

pub returns : goal.returns
unfolding cuts_by
returns c =
    let said = input_of_bytes c.args.plan.now c.args.input.items in
    read string_bytes (λ i. cuts_of c.args.plan.now i c.args.question) (as_job Input said) c.in_ok-input.input c.text_on_input.result (ap (as_job Input) c.in_ok-input.ensures.reads) c.text_on_input.ensures
