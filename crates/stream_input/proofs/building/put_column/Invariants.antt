use Rattle.std.proofs.Common.{◌≡◌, ◌++◌, map, take}
use Rattle.plain_data.specs.Record.{column_of}
use Rattle.input_texts.specs.Said.{record_of}
use Rattle.stream_input.proofs.building.put_column.Given as goal

abbrev pub invariant-loop-row : goal.invariant-loop-row
invariant-loop-row l = l.numbers.items ≡ l.fn.numbers.items ++ column_of l.column (map record_of (take l.row-index l.rows))
