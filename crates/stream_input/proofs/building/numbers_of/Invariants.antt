use Rattle.std.proofs.Common.{◌≡◌, map}
use Rattle.columns.specs.Table.{by_columns}
use Rattle.input_texts.specs.Said.{record_of}
use Rattle.stream_input.proofs.building.numbers_of.Given as goal

abbrev pub invariant-loop-column : goal.invariant-loop-column
invariant-loop-column l = l.numbers.items ≡ by_columns l.column (map record_of l.rows)
