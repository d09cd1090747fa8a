use Rattle.std.proofs.Common.{◌≡◌}
use Rattle.std.specs.List.{flat_map, range_with_len}
use Rattle.plain_data.specs.Record.{column_of}
use Rattle.columns.proofs.Picked.{rows_at}
use Rattle.columns.proofs.Batch.rows_at.Given as goal

abbrev pub invariant-loop-c : goal.invariant-loop-c
invariant-loop-c l = l.numbers.items ≡ flat_map (λ c. column_of c (rows_at l.places l.self.rows)) (range_with_len 0 l.c)
