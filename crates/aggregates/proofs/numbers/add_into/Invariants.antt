use Rattle.std.proofs.Common.{◌≡◌, true, ℕ, ◌<◌, [], ◌++◌, map, drop, slice_index_or}
use Rattle.plan_model.specs.declared.spec.Aggregate.{Aggregate}
use Rattle.plan_model.specs.Aggregates.{number_of}
use Rattle.byte_fields.specs.Fields.{is_i64}
use Rattle.aggregates.specs.Kinds.{kind_of}
use Rattle.aggregates.proofs.Fronts.{merged_front}
use Rattle.aggregates.proofs.numbers.add_into.Given as goal

abbrev pub invariant-loop-i : goal.invariant-loop-i
invariant-loop-i l = record {
  added : l.numbers
      ≡ merged_front (map kind_of l.aggregates) l.fn.numbers (map (λ a. number_of a (slice_index_or l.batch.rows l.row []) []) l.aggregates) l.i ++ drop l.i l.fn.numbers;
  fit : (k : ℕ) → k < l.i → (d : Aggregate) → is_i64 (number_of (slice_index_or l.aggregates k d) (slice_index_or l.batch.rows l.row []) []) ≡ true;
}
