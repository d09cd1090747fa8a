use Rattle.std.proofs.Common.{option_map, ap}
use Rattle.input_texts.specs.Answer.{input_of_bytes}
use Rattle.job_texts.specs.declared.fault.JobFault.TheVariants.{Input}
use Rattle.job_texts.specs.Fault.{input_fault}
use Rattle.job.specs.Ends.{as_job, OnThreads}
use Rattle.job.specs.Leg.{LegRuns, leg_by, leg_on}
use Rattle.job.specs.Asked.{IsEndSo, is_asked, words_of}
use Rattle.job.proofs.LegAnswers.{refused, read, told_of, input_told}
use Rattle.job.proofs.leg.leg_of_plan.Goals as goal

pub returns-in_err-input : goal.returns-in_err-input
unfolding leg_by
returns-in_err-input g c =
    let said = input_of_bytes c.args.plan.now c.args.input.items in
    let f = c.in_err-input.field-0.0 in
    refused OnThreads LegRuns (IsEndSo (is_asked c.args.stop)) (λ i. leg_on c.args.plan.now i c.args.scale.now (option_map (λ bytes. bytes.items) c.args.from) (words_of c.args.stop)) (as_job Input said) (input_fault f)
    c.from_residual.result c.from_residual.ensures.0 c.from_residual.ensures.1 (told_of said Input (input_fault f) (input_told said f c.in_err-input.ensures.reads))

pub returns : goal.returns
unfolding leg_by
returns g c =
    let said = input_of_bytes c.args.plan.now c.args.input.items in
    read OnThreads LegRuns (IsEndSo (is_asked c.args.stop)) (λ i. leg_on c.args.plan.now i c.args.scale.now (option_map (λ bytes. bytes.items) c.args.from) (words_of c.args.stop)) (as_job Input said) c.in_ok-input.input
    c.leg_on_input.result (ap (as_job Input) c.in_ok-input.ensures.reads) c.leg_on_input.ensures
