use Rattle.std.proofs.Common.{◌≡◌, ◌++◌, take}
use Rattle.plain_data.specs.Record.{column_of}
use Rattle.columns.specs.Table.{rows_in}
use Rattle.columns.proofs.rows.put_column.Given as goal

abbrev pub invariant-loop-row : goal.invariant-loop-row
invariant-loop-row l = l.numbers.items ≡ l.fn.numbers.items ++ column_of l.c (rows_in (take l.row-index l.rows))
