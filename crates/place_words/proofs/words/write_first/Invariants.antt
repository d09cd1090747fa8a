use Rattle.std.proofs.Common.{◌≡◌, true, ℕ, ℤ, List, [], ◌+◌, ◌<◌, ◌≤◌, map, drop, slice_index_or}
use Rattle.byte_fields.specs.Fields.{is_i64}
use Rattle.plan_model.specs.declared.spec.Aggregate.{Aggregate}
use Rattle.plan_model.specs.Aggregates.{number_of}
use Rattle.aggregates.specs.Kinds.{kind_of}
use Rattle.place_words.specs.Words as words_of
use Rattle.place_words.specs.Words.{width, IsWritten}
use Rattle.place_words.proofs.Numbers.{AgreeBelow}
use Rattle.place_words.proofs.words.write_first.Given as goal

abbrev pub invariant-loop-aggregate : goal.invariant-loop-aggregate
invariant-loop-aggregate l =
    let rest = drop l.aggregate-index l.aggregates in
    let f = λ (a : Aggregate). number_of a (slice_index_or l.batch.rows l.row []) [] in record {
      start : l.fn.at + 1 ≤ l.at;
      end : l.at + width (map kind_of rest) ≡ l.fn.at + 1 + width (map kind_of l.aggregates);
      fit : (k : ℕ) → k < l.aggregate-index → (d : Aggregate) → is_i64 (f (slice_index_or l.aggregates k d)) ≡ true;
      others : IsWritten (l.fn.at + 1) l.at l.initial.words l.words;
      written : (ws : List ℤ) → AgreeBelow l.at l.words ws
          → words_of.numbers_at 1 (map kind_of rest) ws l.at ≡ map f rest
          → words_of.numbers_at 1 (map kind_of l.aggregates) ws (l.fn.at + 1) ≡ map f l.aggregates;
    }
