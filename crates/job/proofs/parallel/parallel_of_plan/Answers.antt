use Rattle.std.proofs.Common.{string_bytes, ap}
use Rattle.input_texts.specs.Answer.{input_of_bytes}
use Rattle.job_texts.specs.declared.fault.JobFault.TheVariants.{Input}
use Rattle.job_texts.specs.Fault.{input_fault}
use Rattle.job.specs.Ends.{as_job, OnThreads}
use Rattle.job.specs.Parallel.{parallel_by, parallel_on}
use Rattle.job.specs.Run.{RunRuns, IsRunText}
use Rattle.job.proofs.LegAnswers.{refused, read, told_of, input_told}
use Rattle.job.proofs.parallel.parallel_of_plan.Goals as goal

pub returns-in_err-input : goal.returns-in_err-input
unfolding parallel_by
returns-in_err-input g c =
    let said = input_of_bytes c.args.plan.now c.args.input.items in
    let f = c.in_err-input.field-0.0 in
    refused OnThreads RunRuns (λ job text. IsRunText job (string_bytes text)) (λ i. parallel_on c.args.plan.now i c.args.parallelism.now) (as_job Input said) (input_fault f)
    c.from_residual.result c.from_residual.ensures.0 c.from_residual.ensures.1 (told_of said Input (input_fault f) (input_told said f c.in_err-input.ensures.reads))

pub returns : goal.returns
unfolding parallel_by
returns g c =
    let said = input_of_bytes c.args.plan.now c.args.input.items in
    read OnThreads RunRuns (λ job text. IsRunText job (string_bytes text)) (λ i. parallel_on c.args.plan.now i c.args.parallelism.now) (as_job Input said) c.in_ok-input.input
    c.parallel_on_input.result (ap (as_job Input) c.in_ok-input.ensures.reads) c.parallel_on_input.ensures
