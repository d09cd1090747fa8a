use Rattle.std.proofs.Common.{ap, string_bytes}
use Rattle.logical_plan.specs.Answer.{plan_of_bytes}
use Rattle.job_texts.specs.declared.fault.JobFault.TheVariants.{Plan}
use Rattle.job_texts.specs.Fault.{plan_fault}
use Rattle.job.specs.Cuts.{cuts_by, cuts_said}
use Rattle.job.specs.Ends.{as_job}
use Rattle.job.proofs.LegAnswers.{plan_told, told_of}
use Rattle.job.proofs.TextAnswers.{read, refused}
use Rattle.job.proofs.cuts.text_of_texts.Goals as goal

pub returns-in_err-plan : goal.returns-in_err-plan
unfolding cuts_said
returns-in_err-plan c =
    let said = plan_of_bytes c.args.plan.now in
    let f = c.in_err-plan.field-0.0 in
    refused string_bytes (λ p. cuts_by p c.args.input.items c.args.question) (as_job Plan said) (plan_fault f) c.from_residual.result c.from_residual.ensures.0 c.from_residual.ensures.1
    (told_of said Plan (plan_fault f) (plan_told said f c.in_err-plan.ensures))

pub returns : goal.returns
unfolding cuts_said
returns c =
    read string_bytes (λ p. cuts_by p c.args.input.items c.args.question) (as_job Plan (plan_of_bytes c.args.plan.now)) c.in_ok-plan.plan c.text_by_plan.result (ap (as_job Plan) c.in_ok-plan.ensures) c.text_by_plan.ensures
