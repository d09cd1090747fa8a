use Rattle.std.proofs.Common.{string_bytes, ap}
use Rattle.logical_plan.specs.Answer.{plan_of_bytes}
use Rattle.job_texts.specs.declared.fault.JobFault.TheVariants.{Plan}
use Rattle.job_texts.specs.Fault.{plan_fault}
use Rattle.job.specs.Ends.{as_job, OnThreads}
use Rattle.job.specs.Parallel.{parallel_by, parallel_said}
use Rattle.job.specs.Run.{RunRuns, IsRunText}
use Rattle.job.proofs.LegAnswers.{refused, read, told_of, plan_told}
use Rattle.job.proofs.parallel.parallel_of_texts.Goals as goal

pub returns-in_err-plan : goal.returns-in_err-plan
unfolding parallel_said
returns-in_err-plan g c =
    let said = plan_of_bytes c.args.plan.now in
    let f = c.in_err-plan.field-0.0 in
    refused OnThreads RunRuns (λ job text. IsRunText job (string_bytes text)) (λ p. parallel_by p c.args.input.items c.args.parallelism.now) (as_job Plan said) (plan_fault f)
    c.from_residual.result c.from_residual.ensures.0 c.from_residual.ensures.1 (told_of said Plan (plan_fault f) (plan_told said f c.in_err-plan.ensures))

pub returns : goal.returns
unfolding parallel_said
returns g c =
    let said = plan_of_bytes c.args.plan.now in
    read OnThreads RunRuns (λ job text. IsRunText job (string_bytes text)) (λ p. parallel_by p c.args.input.items c.args.parallelism.now) (as_job Plan said) c.in_ok-plan.plan
    c.parallel_of_plan.result (ap (as_job Plan) c.in_ok-plan.ensures) c.parallel_of_plan.ensures
