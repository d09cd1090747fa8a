use Rattle.std.proofs.Common.{string_bytes, ap, Some}
use Rattle.logical_plan.specs.Answer.{plan_of_bytes}
use Rattle.job_texts.specs.declared.fault.JobFault.TheVariants.{Plan}
use Rattle.job_texts.specs.Fault.{plan_fault}
use Rattle.job.specs.Ends.{as_job, InOneThread}
use Rattle.job.specs.Run.{RunRuns, IsRunText, run_by, run_said}
use Rattle.job.proofs.LegAnswers.{refused, read, told_of, plan_told}
use Rattle.job.proofs.ChosenTexts.{so}
use Rattle.job.proofs.simulate.simulated_of_texts.Goals as goal

pub returns-in_err-plan-clause-answers : goal.returns-in_err-plan-clause-answers
unfolding run_said
returns-in_err-plan-clause-answers c =
    let said = plan_of_bytes c.args.plan.now in
    let f = c.in_err-plan.field-0.0 in
    refused InOneThread RunRuns (λ job text. IsRunText job (string_bytes text)) (λ p. run_by p c.args.input.items (Some c.args.legs.now) (Some c.args.choices.now)) (as_job Plan said) (plan_fault f)
    c.from_residual.result c.from_residual.ensures.0 c.from_residual.ensures.1 (told_of said Plan (plan_fault f) (plan_told said f c.in_err-plan.ensures))

pub returns-clause-answers : goal.returns-clause-answers
unfolding run_said
returns-clause-answers c =
    let said = plan_of_bytes c.args.plan.now in
    read InOneThread RunRuns (λ job text. IsRunText job (string_bytes text)) (λ p. run_by p c.args.input.items (Some c.args.legs.now) (Some c.args.choices.now)) (as_job Plan said) c.in_ok-plan.plan
    c.simulated_of_plan.result (ap (as_job Plan) c.in_ok-plan.ensures) c.simulated_of_plan.ensures.answers

pub returns-clause-chosen : goal.returns-clause-chosen
returns-clause-chosen c = so c.simulated_of_plan.result _ _ (λ text by. (c.in_ok-plan.plan, c.in_ok-plan.ensures, by)) c.simulated_of_plan.ensures.chosen
