use Rattle.std.proofs.Common.{◌≡◌, true, ℕ, ◌<◌, [], ◌++◌, map, take, drop, slice_index_or}
use Rattle.plan_model.specs.declared.spec.Aggregate.{Aggregate}
use Rattle.plan_model.specs.Aggregates.{number_of}
use Rattle.byte_fields.specs.Fields.{is_i64}
use Rattle.aggregates.proofs.numbers.write_numbers.Given as goal

abbrev pub invariant-loop-i : goal.invariant-loop-i
invariant-loop-i l = record {
  written : l.numbers ≡ map (λ a. number_of a (slice_index_or l.batch.rows l.row []) []) (take l.i l.aggregates) ++ drop l.i l.fn.numbers;
  fit : (k : ℕ) → k < l.i → (d : Aggregate) → is_i64 (number_of (slice_index_or l.aggregates k d) (slice_index_or l.batch.rows l.row []) []) ≡ true;
}
