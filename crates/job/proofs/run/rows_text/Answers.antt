use Rattle.std.proofs.Common.{Global, None, Ok, string_bytes, subst, sym}
use Rattle.job_texts.specs.declared.fault.JobFault.TheVariants.{Memory}
use Rattle.job.specs.Ends.{Ends, OnThreads}
use Rattle.job.specs.Run.{RunRuns, IsRunText, run_job}
use Rattle.job.proofs.LegAnswers.{err_is}
use Rattle.job.proofs.RunAnswers.{alone}
use Rattle.job.proofs.run.rows_text.Goals as goal

pub returns-in_err-scale : goal.returns-in_err-scale
returns-in_err-scale g c =
    let r = c.from_residual in
    subst (Ends OnThreads RunRuns (λ job text. IsRunText job (string_bytes {Z = Global} text)) (Ok (run_job c.args.plan.now c.args.input.now None))) (sym (err_is r.result Memory r.ensures.0 r.ensures.1)) tt

pub returns : goal.returns
returns g c = alone string_bytes c.args.plan.now c.args.input.now c.whole_text.result c.whole_text.ensures
