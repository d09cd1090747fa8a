use Rattle.std.proofs.Common.{option_map, Err, subst, sym}
use Rattle.job_texts.specs.declared.fault.JobFault.{JobFault}
use Rattle.commands.specs.Checking.{ChecksTexts}
use Rattle.commands.proofs.AsLeg.{plan_read, plan_refused}
use Rattle.commands.proofs.checking.check_texts.Goals as goal

pub returns-in-Ok : goal.returns-in-Ok
returns-in-Ok g c =
    let texts = c.args.texts in
    plan_read texts.plan.bytes.now (option_map (λ text. text.bytes.now) texts.input) (option_map (λ text. text.bytes.now) texts.scale) (option_map (λ text. text.bytes.now) texts.from) (option_map (λ word. word.now) texts.stop)
    c.in-Ok.read c.check_parts.result c.in-Ok.ensures.answers c.check_parts.ensures

pub returns-in-Err : goal.returns-in-Err
returns-in-Err g c =
    let texts = c.args.texts in
    subst
    (λ (fault : JobFault). ChecksTexts texts.plan.bytes.now (option_map (λ text. text.bytes.now) texts.input) (option_map (λ text. text.bytes.now) texts.scale) (option_map (λ text. text.bytes.now) texts.from) (option_map (λ word. word.now) texts.stop) (Err fault))
    (sym c.from.ensures)
    (plan_refused texts.plan.bytes.now (option_map (λ text. text.bytes.now) texts.input) (option_map (λ text. text.bytes.now) texts.scale) (option_map (λ text. text.bytes.now) texts.from) (option_map (λ word. word.now) texts.stop) c.in-Err.fault c.in-Err.ensures.answers)
