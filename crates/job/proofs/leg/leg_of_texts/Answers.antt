use Rattle.std.proofs.Common.{option_map, ap}
use Rattle.logical_plan.specs.Answer.{plan_of_bytes}
use Rattle.job_texts.specs.declared.fault.JobFault.TheVariants.{Plan}
use Rattle.job_texts.specs.Fault.{plan_fault}
use Rattle.job.specs.Ends.{as_job, OnThreads}
use Rattle.job.specs.Leg.{LegRuns, leg_by, leg_said}
use Rattle.job.specs.Asked.{IsEndSo, is_asked, words_of}
use Rattle.job.proofs.LegAnswers.{refused, read, told_of, plan_told}
use Rattle.job.proofs.leg.leg_of_texts.Goals as goal

pub returns-in_err-plan : goal.returns-in_err-plan
unfolding leg_said
returns-in_err-plan g c =
    let bytes = c.args.plan.now in
    let f = c.in_err-plan.field-0.0 in
    refused OnThreads LegRuns (IsEndSo (is_asked c.args.stop)) (λ p. leg_by p c.args.input.items c.args.scale.now (option_map (λ bytes. bytes.items) c.args.from) (words_of c.args.stop)) (as_job Plan (plan_of_bytes bytes)) (plan_fault f)
    c.from_residual.result c.from_residual.ensures.0 c.from_residual.ensures.1 (told_of (plan_of_bytes bytes) Plan (plan_fault f) (plan_told (plan_of_bytes bytes) f c.in_err-plan.ensures))

pub returns : goal.returns
unfolding leg_said
returns g c =
    let bytes = c.args.plan.now in
    read OnThreads LegRuns (IsEndSo (is_asked c.args.stop)) (λ p. leg_by p c.args.input.items c.args.scale.now (option_map (λ bytes. bytes.items) c.args.from) (words_of c.args.stop)) (as_job Plan (plan_of_bytes bytes)) c.in_ok-plan.plan
    c.leg_of_plan.result (ap (as_job Plan) c.in_ok-plan.ensures) c.leg_of_plan.ensures
