use Rattle.std.proofs.Common.{ap, option_map}
use Rattle.input_texts.specs.Answer.{input_of_bytes}
use Rattle.job_texts.specs.declared.fault.JobFault.TheVariants.{Input}
use Rattle.job_texts.specs.Fault.{input_fault}
use Rattle.job.specs.Ends.{as_job}
use Rattle.job.proofs.LegAnswers.{input_told, told_of}
use Rattle.commands.specs.Checking.{begins_on}
use Rattle.commands.proofs.AsLeg.{read, refused}
use Rattle.commands.proofs.checking.check_job.Goals as goal

pub returns-in_err-read : goal.returns-in_err-read
returns-in_err-read g c =
    let said = input_of_bytes c.args.plan.now c.args.input.bytes.now in
    let f = c.in_err-read.field-0.0 in
    refused (λ i. begins_on c.args.plan.now i (option_map (λ text. text.bytes.now) c.args.scale) (option_map (λ bytes. bytes.now) c.args.restart.savepoint) (option_map (λ word. word.now) c.args.restart.stop)) (as_job Input said) (input_fault f)
    c.from_residual.result c.from_residual.ensures.0 c.from_residual.ensures.1 (told_of said Input (input_fault f) (input_told said f c.in_err-read.ensures.answers))

pub returns : goal.returns
returns g c =
    let said = input_of_bytes c.args.plan.now c.args.input.bytes.now in
    read (λ i. begins_on c.args.plan.now i (option_map (λ text. text.bytes.now) c.args.scale) (option_map (λ bytes. bytes.now) c.args.restart.savepoint) (option_map (λ word. word.now) c.args.restart.stop)) (as_job Input said)
    c.in_ok-read.read c.check_leg.result (ap (as_job Input) c.in_ok-read.ensures.answers) c.check_leg.ensures
