use Rattle.std.proofs.Common.{option_map, ap}
use Rattle.layout_rules.specs.ScaleData.{ScaleData}
use Rattle.plan_scale.specs.Answer.{scale_of_bytes}
use Rattle.job_texts.specs.declared.fault.JobFault.TheVariants.{Scale}
use Rattle.job_texts.specs.Fault.{scale_fault}
use Rattle.job.specs.Ends.{as_job, OnThreads}
use Rattle.job.specs.Leg.{LegRuns, job_with, leg_on}
use Rattle.job.specs.Asked.{IsEndSo, is_asked, words_of}
use Rattle.job.proofs.LegAnswers.{refused, read, told_of, scale_told}
use Rattle.job.proofs.leg.leg_on_input.Goals as goal

pub returns-in_err-scale : goal.returns-in_err-scale
unfolding leg_on
returns-in_err-scale g c =
    let said = scale_of_bytes c.args.plan.now c.args.scale.now in
    let f = c.in_err-scale.field-0.0 in
    refused OnThreads LegRuns (IsEndSo (is_asked c.args.stop)) (λ (s : ScaleData). job_with c.args.plan.now c.args.input.now (option_map (λ bytes. bytes.items) c.args.from) (words_of c.args.stop)) (as_job Scale said) (scale_fault f)
    c.from_residual.result c.from_residual.ensures.0 c.from_residual.ensures.1 (told_of said Scale (scale_fault f) (scale_told said f c.in_err-scale.ensures.reads))

pub returns : goal.returns
unfolding leg_on
returns g c =
    let said = scale_of_bytes c.args.plan.now c.args.scale.now in
    read OnThreads LegRuns (IsEndSo (is_asked c.args.stop)) (λ (s : ScaleData). job_with c.args.plan.now c.args.input.now (option_map (λ bytes. bytes.items) c.args.from) (words_of c.args.stop)) (as_job Scale said) c.in_ok-scale.scale
    c.leg_at_scale.result (ap (as_job Scale) c.in_ok-scale.ensures.reads) c.leg_at_scale.ensures
