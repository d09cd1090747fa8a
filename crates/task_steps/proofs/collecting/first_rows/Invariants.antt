use Rattle.std.proofs.Common.{◌≡◌, take}
use Rattle.task_steps.proofs.collecting.first_rows.Given as goal

abbrev pub invariant-loop-row : goal.invariant-loop-row
invariant-loop-row l = l.first.items ≡ take l.row-index l.rows
