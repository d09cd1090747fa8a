use Rattle.std.proofs.Common.{◌∙◌, Err, ap, subst, sym}
use Rattle.std.specs.Option.{option_map_or}
use Rattle.answers.specs.Answer.{Gives}
use Rattle.plan_scale.specs.Even.{scale_at}
use Rattle.job_texts.specs.declared.fault.JobFault.TheVariants.{Number, Scale}
use Rattle.job_texts.specs.Fault.{is_memory, scale_fault}
use Rattle.job.specs.Ends.{as_job}
use Rattle.job.specs.Parallel.{scale_said}
use Rattle.job.proofs.LegAnswers.{err_is, scale_told, told_of}
use Rattle.job.proofs.parallel.even_scale.Goals as goal

pub returns-in_default-clause-reads : goal.returns-in_default-clause-reads
unfolding scale_said
returns-in_default-clause-reads c = ap (λ o. option_map_or (λ n. as_job Scale (scale_at c.args.plan.now n)) o (Err Number)) (sym c.read_count.ensures.said ∙ c.in_default.is)

pub returns-in_err-even-clause-reads : goal.returns-in_err-even-clause-reads
unfolding scale_said
returns-in_err-even-clause-reads c =
    let p = c.args.plan.now in
    let f = c.in_err-even.field-0.0 in
    let r = c.from_residual in
    let said = scale_at p c.in-Some.parallelism in
    subst (λ o. Gives is_memory (λ scale. scale) r.result (option_map_or (λ n. as_job Scale (scale_at p n)) o (Err Number))) (sym c.in-Some.is ∙ c.read_count.ensures.said)
    (subst (λ z. Gives is_memory (λ scale. scale) z (as_job Scale said)) (sym (err_is r.result (scale_fault f) r.ensures.0 r.ensures.1)) (told_of said Scale (scale_fault f) (scale_told said f c.in_err-even.ensures.says)))

pub returns-clause-reads : goal.returns-clause-reads
unfolding scale_said
returns-clause-reads c =
    ap (λ o. option_map_or (λ n. as_job Scale (scale_at c.args.plan.now n)) o (Err Number)) (sym c.read_count.ensures.said ∙ c.in-Some.is) ∙ ap (as_job Scale) c.in_ok-even.ensures.says
