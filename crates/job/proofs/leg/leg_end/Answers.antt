use Rattle.std.proofs.Common.{◌∙◌, ap}
use Rattle.dataflow_laws.specs.Inputs.{due_between}
use Rattle.redistribute.specs.StartData.{offsets_of}
use Rattle.job_texts.specs.Text.{text_of_rows}
use Rattle.job.specs.Asked.{aims_in, may_ask}
use Rattle.job.specs.Leg.{AreLegRows, leg_job}
use Rattle.job.proofs.LegEnds.{ends_on, told_of_rows}
use Rattle.job.proofs.leg.leg_end.Goals as goal

pub returns : goal.returns
returns g c =
    let p = c.args.plan.now in
    let i = c.args.input.now in
    let s = c.args.start in
    let given = c.in_ok-given.given in (
      c.in_ok-given.ensures.0,
      ends_on (λ leg. AreLegRows given.abandoned leg given.rows.items given.savepoint) _ (may_ask c.args.aims.stop) p i s (aims_in c.args.aims)
          (λ aims rows. told_of_rows given.abandoned (leg_job p i s aims) given.rows.items given.savepoint _ _
          (λ cut are has. record {
            rows = c.sort_rows.new.rows.items;
            are = c.in_ok-sort_rows.ensures.same (due_between p i.sources (offsets_of s) cut) (are has);
            ordered = c.in_ok-sort_rows.ensures.ordered;
            lines = c.in_ok-text.ensures ∙ ap text_of_rows c.deref.ensures.value;
          })
          c.in_ok-savepoint.ensures rows)
          c.in_ok-given.ensures.1,
    )
