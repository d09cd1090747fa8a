use Rattle.std.proofs.Common.{sym, ap, ◌∙◌}
use Rattle.columns.specs.Parts.{with_rows}
use Rattle.task_steps.proofs.Sent.{filter_nothing}
use Rattle.task_steps.proofs.reading.copied.Goals as goal

pub returns-in-Ok : goal.returns-in-Ok
returns-in-Ok c = c.in-Ok.ensures.same ∙ ap (with_rows c.args.batch.now) (sym (filter_nothing c.args.filters.now c.args.batch.now.rows c.if-is_empty.ensures))
