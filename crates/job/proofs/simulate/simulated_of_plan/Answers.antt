use Rattle.std.proofs.Common.{string_bytes, ap, Some}
use Rattle.input_texts.specs.Answer.{input_of_bytes}
use Rattle.job_texts.specs.declared.fault.JobFault.TheVariants.{Input}
use Rattle.job_texts.specs.Fault.{input_fault}
use Rattle.job.specs.Ends.{as_job, InOneThread}
use Rattle.job.specs.Run.{RunRuns, IsRunText, run_by, run_with}
use Rattle.job.proofs.LegAnswers.{refused, read, told_of, input_told}
use Rattle.job.proofs.ChosenTexts.{so}
use Rattle.job.proofs.simulate.simulated_of_plan.Goals as goal

pub returns-in_err-input-clause-answers : goal.returns-in_err-input-clause-answers
unfolding run_by
returns-in_err-input-clause-answers c =
    let said = input_of_bytes c.args.plan.now c.args.input.items in
    let f = c.in_err-input.field-0.0 in
    refused InOneThread RunRuns (λ job text. IsRunText job (string_bytes text)) (λ i. run_with c.args.plan.now i (Some c.args.legs.now) (Some c.args.choices.now)) (as_job Input said) (input_fault f)
    c.from_residual.result c.from_residual.ensures.0 c.from_residual.ensures.1 (told_of said Input (input_fault f) (input_told said f c.in_err-input.ensures.reads))

pub returns-clause-answers : goal.returns-clause-answers
unfolding run_by run_with
returns-clause-answers c =
    let said = input_of_bytes c.args.plan.now c.args.input.items in
    read InOneThread RunRuns (λ job text. IsRunText job (string_bytes text)) (λ i. run_with c.args.plan.now i (Some c.args.legs.now) (Some c.args.choices.now)) (as_job Input said) c.in_ok-input.input
    c.simulated_on_input.result (ap (as_job Input) c.in_ok-input.ensures.reads) c.simulated_on_input.ensures.answers

pub returns-clause-chosen : goal.returns-clause-chosen
returns-clause-chosen c = so c.simulated_on_input.result _ _ (λ text by. (c.in_ok-input.input, c.in_ok-input.ensures.reads, by)) c.simulated_on_input.ensures.chosen
