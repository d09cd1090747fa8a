use Rattle.std.specs.Io.KnownBytes.{Appends}
use Rattle.job.specs.Cuts.{cuts_said}
use Rattle.job.proofs.CutAnswers.{cuts_unwritten}
use Rattle.job.proofs.TextAnswers.{tells_refused}
use Rattle.job.proofs.cuts.job_cuts.Goals as goal

pub returns-in_err-text-clause-answers : goal.returns-in_err-text-clause-answers
returns-in_err-text-clause-answers g c =
    let old = g.W.Write.contents c.args.out.now in
    let plan = c.args.plan.now in
    let input = c.args.input.items in
    tells_refused (λ text. Appends old old text) (cuts_said plan input c.args.question) c.in_err-text.field-0.0 c.from_residual.result c.from_residual.ensures.0 c.from_residual.ensures.1 (cuts_unwritten plan input c.args.question) c.in_err-text.ensures
