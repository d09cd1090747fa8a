use Rattle.std.proofs.Common.{Ok, ap, string_bytes, sym, ◌∙◌}
use Rattle.savepoint_codec.specs.declared.savepoint.Contents.{Contents}
use Rattle.savepoint_index.specs.Answer.{savepoint_of_bytes}
use Rattle.job_texts.specs.declared.fault.JobFault.TheVariants.{Save}
use Rattle.job_texts.specs.Fault.{save_fault}
use Rattle.job_texts.specs.ShowText.{savepoint_text}
use Rattle.job.specs.Ends.{as_job}
use Rattle.job.specs.Show.{show_said}
use Rattle.job.proofs.TextAnswers.{forgotten, read, refused, save_told}
use Rattle.job.proofs.show.text_of_bytes.Goals as goal

pub returns-in_err-savepoint : goal.returns-in_err-savepoint
unfolding show_said
returns-in_err-savepoint c =
    let said = savepoint_of_bytes c.args.bytes.now in
    let f = c.in_err-savepoint.field-0.0 in
    refused string_bytes (λ (s : Contents). Ok (savepoint_text s)) (as_job Save said) (save_fault f) c.from_residual.result c.from_residual.ensures.0 c.from_residual.ensures.1 (save_told said f c.in_err-savepoint.ensures.exact)

pub returns-in_err-text_of_savepoint : goal.returns-in_err-text_of_savepoint
returns-in_err-text_of_savepoint c =
    forgotten string_bytes (show_said c.args.bytes.now) c.from_residual-in_err-text_of_savepoint.result c.from_residual-in_err-text_of_savepoint.ensures.0 c.from_residual-in_err-text_of_savepoint.ensures.1

pub returns : goal.returns
unfolding show_said
returns c =
    let said = savepoint_of_bytes c.args.bytes.now in
    read string_bytes (λ (s : Contents). Ok (savepoint_text s)) (as_job Save said) c.in_ok-savepoint.savepoint (Ok c.in_ok-text_of_savepoint.field-0) (ap (as_job Save) c.in_ok-savepoint.ensures.exact)
    (ap Ok (sym (c.in_ok-text_of_savepoint.ensures ∙ ap savepoint_text c.contents.ensures.says)))
