use Rattle.std.proofs.Common.{sym, ap}
use Rattle.columns.specs.Parts.{with_rows}
use Rattle.task_steps.proofs.Sent.{filter_nothing}
use Rattle.task_steps.proofs.sending.passed.Goals as goal

pub returns-then-is_empty : goal.returns-then-is_empty
returns-then-is_empty c = ap (with_rows c.args.batch) (sym (filter_nothing c.args.filters.now c.args.batch.rows c.if-is_empty.ensures))
