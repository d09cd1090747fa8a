use Rattle.std.proofs.Common.{◌≡◌, ◌+◌, ◌++◌}
use Rattle.std.specs.Vec.{vec_len, vec_capacity}
use Rattle.stream_input.specs.Fit.{column_in_cells}
use Rattle.stream_input.proofs.cells.put_column.Given as goal

abbrev pub invariant-loop-row : goal.invariant-loop-row
invariant-loop-row l = record {
  items : l.numbers.items ≡ l.fn.numbers.items ++ column_in_cells l.width l.row l.cells l.column;
  len : vec_len l.numbers ≡ vec_len l.fn.numbers + l.row;
  capacity : vec_capacity l.numbers ≡ vec_capacity l.fn.numbers;
}
