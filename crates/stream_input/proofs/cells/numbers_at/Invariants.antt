use Rattle.std.proofs.Common.{◌≡◌, ◌*◌, ◌≤◌}
use Rattle.std.specs.List.{flat_map, range_with_len}
use Rattle.std.specs.Vec.{vec_len, vec_capacity}
use Rattle.stream_input.specs.Fit.{column_in_cells}
use Rattle.stream_input.proofs.cells.numbers_at.Given as goal

abbrev pub invariant-loop-column : goal.invariant-loop-column
invariant-loop-column l = record {
  items : l.numbers.items ≡ flat_map (column_in_cells l.width l.count l.cells) (range_with_len 0 l.column);
  len : vec_len l.numbers ≡ l.column * l.count;
  room : l.count * l.width ≤ vec_capacity l.numbers;
}
