use Rattle.std.proofs.Common.{◌∙◌, ap}
use Rattle.stream_model.specs.PlanRows.{plan_rows}
use Rattle.job_texts.specs.Text.{text_of_rows}
use Rattle.job.proofs.whole.whole_text.Goals as goal

pub returns : goal.returns
returns g c = record {
  rows = c.sort_rows.new.rows.items;
  are = c.in_ok-sort_rows.ensures.same (plan_rows c.args.plan.now c.args.input.now.sources) c.in_ok-rows.ensures;
  ordered = c.in_ok-sort_rows.ensures.ordered;
  lines = c.in_ok-text_of_rows.ensures ∙ ap text_of_rows c.deref.ensures.value;
}
