use Rattle.std.proofs.Common.{◌∙◌, Ok, ap, sym}
use Rattle.std.specs.Io.KnownBytes.{Appends}
use Rattle.job.specs.Layout.{layout_said}
use Rattle.job.proofs.TextAnswers.{kept, layout_unwritten, tells_refused, tells_written}
use Rattle.job.proofs.layout.job_layout.Goals as goal

pub returns-in_err-text-clause-answers : goal.returns-in_err-text-clause-answers
returns-in_err-text-clause-answers g c =
    let old = g.W.Write.contents c.args.out.now in
    tells_refused (λ text. Appends old old text) (layout_said c.args.plan.now c.args.scale.now) c.in_err-text.field-0.0 c.from_residual.result c.from_residual.ensures.0 c.from_residual.ensures.1 (layout_unwritten c.args.plan.now c.args.scale.now) c.in_err-text.ensures

pub returns-clause-answers : goal.returns-clause-answers
returns-clause-answers g c =
    tells_written (λ text. Appends (g.W.Write.contents c.args.out.now) (g.W.Write.contents c.write_text.new.out) text) (layout_said c.args.plan.now c.args.scale.now) c.as_str.result.now c.write_text.result
    (c.in_ok-text.ensures ∙ ap Ok (sym c.as_str.ensures.value)) c.write_text.ensures

pub returns-clause-kept : goal.returns-clause-kept
returns-clause-kept g c = kept _ c.write_text.result (g.W.Write.contents c.args.out.now) (g.W.Write.contents c.write_text.new.out) c.write_text.ensures
