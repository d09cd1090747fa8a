use Rattle.std.proofs.Common.{◌∙◌, ap, refl, sym, subst, string_bytes, Global, Ok, Some}
use Rattle.job_texts.specs.Fault.{leg_fault}
use Rattle.job_texts.specs.Text as texts
use Rattle.job.specs.Ends.{Ends, OnThreads}
use Rattle.job.specs.Run.{RunRuns, IsRunText, run_job}
use Rattle.job.proofs.LegAnswers.{err_is}
use Rattle.job.proofs.RunAnswers.{threads_fail}
use Rattle.job.proofs.run.text_of_list.Goals as goal

pub returns-in_err-end : goal.returns-in_err-end
returns-in_err-end g c =
    let p = c.args.plan.now in
    let i = c.args.input.now in
    let legs = c.args.legs.items in
    let f = c.in_err-end.field-0.0 in
    let r = c.from_residual in
    subst (Ends OnThreads RunRuns (λ job text. IsRunText job (string_bytes {Z = Global} text)) (Ok (run_job p i (Some legs)))) (sym (err_is r.result (leg_fault f) r.ensures.0 r.ensures.1))
    (threads_fail (string_bytes {Z = Global}) p i legs c.requires.list f c.in_err-end.ensures)

pub returns : goal.returns
returns g c =
    let end = c.in_ok-end.ensures in (
      run_job c.args.plan.now c.args.input.now (Some c.args.legs.items),
      refl,
      end.can,
      record {
        rows = c.in_ok-end.end.rows.items;
        are = end.rows;
        ordered = end.ordered;
        lines = c.in_ok-text_of_rows.ensures ∙ ap texts.text_of_rows c.deref.ensures.value;
      },
    )
