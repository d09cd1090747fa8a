use Rattle.legs.specs.Stops.{until_of}
use Rattle.stream_model.specs.PlanRows.{due_rows}
use Rattle.dataflow_laws.specs.Compiled.{cut_to}
use Rattle.job_legs.specs.Running.{last_stop}
use Rattle.job_legs.proofs.Ended.{come_to}
use Rattle.job_legs.proofs.running.end_of_legs.Goals as goal

pub returns-clause-chosen : goal.returns-clause-chosen
returns-clause-chosen g c = record {
  rows = c.in_ok-reached.reached.rows.items;
  left = c.in_ok-reached.reached.savepoint;
  turned = c.in_ok-reached.ensures.chosen;
  same = λ f are. (c.in_ok-end_of.ensures.rows f are).0;
  saved = c.in_ok-end_of.ensures.savepoint;
}

pub returns-clause-ends : goal.returns-clause-ends
returns-clause-ends g c =
    let p = c.args.plan.now in
    let i = c.args.input.now in
    let legs = c.args.legs.now in
    let run = c.in_ok-reached.ensures.runs in
    let given = c.in_ok-end_of.ensures in
    let rows = given.rows (due_rows p i.sources (cut_to i (until_of (last_stop legs)))) run.after.rows in
    record {
      list = c.requires.list;
      can = run.can;
      rows = come_to c.end_is_due-law.ensures p i (last_stop legs) c.in_ok-end_of.field-0.rows.items c.columns-columns.ensures.sound c.sources-sources.ensures.sound c.requires.belongs rows.0;
      ordered = rows.1;
      left = c.in_ok-reached.reached.savepoint;
      is_left = run.after.saved;
      bytes = given.savepoint;
    }
