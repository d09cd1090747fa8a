use Rattle.std.proofs.Common.{◌≡◌}
use Rattle.columns.specs.Table.{by_columns, rows_in}
use Rattle.columns.proofs.rows.numbers_of.Given as goal

abbrev pub invariant-loop-c : goal.invariant-loop-c
invariant-loop-c l = l.numbers.items ≡ by_columns l.c (rows_in l.rows)
