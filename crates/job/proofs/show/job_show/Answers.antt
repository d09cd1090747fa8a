use Rattle.std.proofs.Common.{◌∙◌, Ok, Err, ap, sym, option_map}
use Rattle.std.specs.Prelude.{string_bytes}
use Rattle.std.specs.Io.KnownBytes.{Appends}
use Rattle.answers.specs.Answer.{Gives}
use Rattle.job_texts.specs.Fault.{is_memory}
use Rattle.job.specs.Show.{TellsSavepoint}
use Rattle.job.proofs.LegAnswers.{err_is}
use Rattle.job.proofs.ShowAnswers.{no_word, of_bytes}
use Rattle.job.proofs.TextAnswers.{tells_refused, tells_written}
use Rattle.job.proofs.show.job_show.Goals as goal

pub returns-in_err-text-clause-answers : goal.returns-in_err-text-clause-answers
returns-in_err-text-clause-answers g c =
    let old = g.W.Write.contents c.args.out.now in
    let result = c.from_residual.result in
    let fault = c.in_err-text.field-0.0 in
    let is = err_is result fault c.from_residual.ensures.0 c.from_residual.ensures.1 in
    of_bytes (λ said r. Gives is_memory string_bytes r said) (λ said r. TellsSavepoint said r old old) (Err fault) result
    (λ said unwritten gives. tells_refused (λ text. Appends old old text) said fault result c.from_residual.ensures.0 c.from_residual.ensures.1 unwritten gives)
    (λ f e. is ∙ ap Err cc) (λ e. cc)
    c.args.savepoint.now (option_map (λ word. word.now) c.args.group) c.in_err-text.ensures

pub returns-clause-answers : goal.returns-clause-answers
returns-clause-answers g c =
    let old = g.W.Write.contents c.args.out.now in
    let new = g.W.Write.contents c.write_text.new.out in
    of_bytes (λ said r. Gives is_memory string_bytes r said) (λ said r. TellsSavepoint said r old new) (Ok c.in_ok-text.text) c.write_text.result
    (λ said unwritten gives. tells_written (λ text. Appends old new text) said c.as_str.result.now c.write_text.result (gives ∙ ap Ok (sym c.as_str.ensures.value)) c.write_text.ensures)
    (λ f e. absurd cc) (λ e. absurd (no_word _ c.write_text.result c.write_text.ensures e))
    c.args.savepoint.now (option_map (λ word. word.now) c.args.group) c.in_ok-text.ensures
