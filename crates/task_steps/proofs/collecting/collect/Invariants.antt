use Rattle.std.proofs.Common.{◌≡◌, ◌+◌, ◌≤◌, ◌++◌, length}
use Rattle.std.specs.Vec.{vec_len, vec_capacity}
use Rattle.task_steps.proofs.collecting.collect.Given as goal

abbrev pub invariant-loop-row : goal.invariant-loop-row
invariant-loop-row l = record {
  items : l.rows.items ++ l.row-iterator.rest.items ≡ l.initial.rows.items ++ l.initial.row-iterator.rest.items;
  room : vec_len l.rows + length l.row-iterator.rest.items ≤ vec_capacity l.rows;
}
