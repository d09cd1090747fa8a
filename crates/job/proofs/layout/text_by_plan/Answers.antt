use Rattle.std.proofs.Common.{Ok, ap, string_bytes, sym}
use Rattle.layout_rules.specs.ScaleData.{ScaleData}
use Rattle.plan_compiler.specs.LayoutData.{layout_of}
use Rattle.plan_scale.specs.Answer.{scale_of_bytes}
use Rattle.job_texts.specs.declared.fault.JobFault.TheVariants.{Scale}
use Rattle.job_texts.specs.Fault.{scale_fault}
use Rattle.job_texts.specs.LayoutText.{layout_text}
use Rattle.job.specs.Ends.{as_job}
use Rattle.job.specs.Layout.{layout_by}
use Rattle.job.proofs.LegAnswers.{scale_told, told_of}
use Rattle.job.proofs.TextAnswers.{forgotten, read, refused}
use Rattle.job.proofs.layout.text_by_plan.Goals as goal

pub returns-in_err-scale : goal.returns-in_err-scale
unfolding layout_by
returns-in_err-scale c =
    let p = c.args.plan.now in
    let said = scale_of_bytes p c.args.scale.now in
    let f = c.in_err-scale.field-0.0 in
    refused string_bytes (λ (s : ScaleData). Ok (layout_text p (layout_of p s))) (as_job Scale said) (scale_fault f) c.from_residual.result c.from_residual.ensures.0 c.from_residual.ensures.1
    (told_of said Scale (scale_fault f) (scale_told said f c.in_err-scale.ensures.reads))

pub returns-in_err-text_at_scale : goal.returns-in_err-text_at_scale
returns-in_err-text_at_scale c =
    forgotten string_bytes (layout_by c.args.plan.now c.args.scale.now) c.from_residual-in_err-text_at_scale.result c.from_residual-in_err-text_at_scale.ensures.0 c.from_residual-in_err-text_at_scale.ensures.1

pub returns : goal.returns
unfolding layout_by
returns c =
    let p = c.args.plan.now in
    let said = scale_of_bytes p c.args.scale.now in
    read string_bytes (λ (s : ScaleData). Ok (layout_text p (layout_of p s))) (as_job Scale said) c.in_ok-scale.scale (Ok c.in_ok-text_at_scale.field-0) (ap (as_job Scale) c.in_ok-scale.ensures.reads)
    (ap Ok (sym c.in_ok-text_at_scale.ensures))
