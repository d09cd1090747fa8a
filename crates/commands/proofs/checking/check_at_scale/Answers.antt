use Rattle.std.proofs.Common.{None, option_map}
use Rattle.plan_scale.specs.Answer.{scale_of_bytes}
use Rattle.job_texts.specs.declared.fault.JobFault.TheVariants.{Scale}
use Rattle.job_texts.specs.Fault.{scale_fault}
use Rattle.job.specs.Leg.{job_with, leg_on, words}
use Rattle.job.proofs.LegAnswers.{scale_told, told_of}
use Rattle.commands.proofs.AsLeg.{failed, passed}
use Rattle.commands.proofs.checking.check_at_scale.Goals as goal

pub returns-in_err-check_scale : goal.returns-in_err-check_scale
unfolding leg_on
returns-in_err-check_scale g c =
    let said = scale_of_bytes c.args.plan.now c.args.scale.bytes.now in
    let f = c.in_err-check_scale.field-0.0 in
    failed Scale said (job_with c.args.plan.now c.args.input.now (option_map (λ bytes. bytes.now) c.args.restart.savepoint) (words None (option_map (λ word. word.now) c.args.restart.stop))) (scale_fault f)
    c.from_residual.result c.from_residual.ensures.0 c.from_residual.ensures.1 (told_of said Scale (scale_fault f) (scale_told said f c.in_err-check_scale.ensures.answers))

pub returns : goal.returns
unfolding leg_on
returns g c =
    passed Scale (scale_of_bytes c.args.plan.now c.args.scale.bytes.now) (job_with c.args.plan.now c.args.input.now (option_map (λ bytes. bytes.now) c.args.restart.savepoint) (words None (option_map (λ word. word.now) c.args.restart.stop)))
    c.check_its_start.result c.in_ok-check_scale.ensures.answers c.check_its_start.ensures
