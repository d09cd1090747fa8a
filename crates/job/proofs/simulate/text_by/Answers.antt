use Rattle.std.proofs.Common.{◌∙◌, option_map, ap, refl, sym, subst, string_bytes, length, Global, Ok, Some}
use Rattle.job_texts.specs.Fault.{leg_fault}
use Rattle.job_texts.specs.Text as texts
use Rattle.job.specs.Ends.{Ends, InOneThread}
use Rattle.job.specs.Run.{RunRuns, IsRunText, run_job}
use Rattle.job.proofs.LegAnswers.{err_is}
use Rattle.job.proofs.RunAnswers.{legs_fail}
use Rattle.job.proofs.simulate.text_by.Goals as goal

pub returns-in_err-end-clause-answers : goal.returns-in_err-end-clause-answers
returns-in_err-end-clause-answers c =
    let p = c.args.plan.now in
    let i = c.args.input.now in
    let legs = c.args.legs.items in
    let f = c.in_err-end.field-0.0 in
    let r = c.from_residual in
    subst (Ends InOneThread RunRuns (λ job text. IsRunText job (string_bytes {Z = Global} text)) (Ok (run_job p i (Some legs)))) (sym (err_is r.result (leg_fault f) r.ensures.0 r.ensures.1))
    (legs_fail InOneThread (string_bytes {Z = Global}) p i legs c.requires.list (length c.args.choices.now) c.requires.choices f c.in_err-end.ensures.ends)

pub returns-clause-answers : goal.returns-clause-answers
returns-clause-answers c =
    let end = c.in_ok-end.ensures.ends in (
      run_job c.args.plan.now c.args.input.now (Some c.args.legs.items),
      refl,
      end.can,
      record {
        rows = c.in_ok-end.end.rows.items;
        are = end.rows;
        ordered = end.ordered;
        lines = c.in_ok-text_of_rows.ensures ∙ ap texts.text_of_rows c.deref.ensures.value;
      },
    )

pub returns-clause-chosen : goal.returns-clause-chosen
returns-clause-chosen c = record {
  rows = c.in_ok-end.end.rows.items;
  left = option_map (λ b. b.items) c.in_ok-end.end.savepoint;
  run = c.in_ok-end.ensures.chosen;
  lines = c.in_ok-text_of_rows.ensures ∙ ap texts.text_of_rows c.deref.ensures.value;
}
