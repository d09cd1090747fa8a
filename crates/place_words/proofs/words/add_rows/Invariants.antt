use Rattle.std.proofs.Common.{◌≡◌, true, ℕ, ℤ, pos, List, ◌+◌, ◌+ℤ◌, ◌<◌, ◌≤◌, map, drop, length, slice_index_or}
use Rattle.std.specs.List.{All}
use Rattle.byte_fields.specs.Fields.{is_i64}
use Rattle.plan_model.specs.declared.spec.Aggregate.{Aggregate}
use Rattle.aggregates.specs.Kinds.{kind_of, are_numbers}
use Rattle.place_words.specs.Words.{width, stride, word, count_of, numbers_at}
use Rattle.place_words.specs.PlacedRows.{rows_to, IsInPlaces}
use Rattle.place_words.proofs.Columns.{columns_to, number_in}
use Rattle.place_words.proofs.words.add_rows.Given as goal

abbrev pub invariant-loop-aggregate : goal.invariant-loop-aggregate
invariant-loop-aggregate l =
    let kinds = map kind_of l.aggregates in
    let rest = drop l.aggregate-index l.aggregates in
    let old = l.fn.words in record {
      start : 1 ≤ l.offset;
      end : l.offset + width (map kind_of rest) ≡ stride kinds;
      len : length l.words ≡ length old;
      count : (x : ℕ) → IsInPlaces kinds old x → word l.words x ≡ word old x +ℤ pos (rows_to x l.rows);
      others : (x j : ℕ) → IsInPlaces kinds old x → l.offset ≤ j → j < stride kinds → word l.words (x + j) ≡ word old (x + j);
      few : All (λ r. are_numbers (count_of (word old r.at)) (map kind_of rest)
          (numbers_at (count_of (word old r.at)) (map kind_of rest) old (r.at + l.offset)) ≡ true) l.rows;
      fit : (k : ℕ) → k < l.aggregate-index → (d : Aggregate)
          → All (λ r. is_i64 (number_in l.batch.rows (slice_index_or l.aggregates k d) r) ≡ true) l.rows;
      added : (n x : ℕ) → IsInPlaces kinds old x → (ws : List ℤ) → ((j : ℕ) → 1 ≤ j → j < l.offset → word ws (x + j) ≡ word l.words (x + j))
          → numbers_at (n + rows_to x l.rows) (map kind_of rest) ws (x + l.offset)
          ≡ columns_to l.batch.rows x l.rows rest (numbers_at n (map kind_of rest) old (x + l.offset))
          → numbers_at (n + rows_to x l.rows) kinds ws (x + 1) ≡ columns_to l.batch.rows x l.rows l.aggregates (numbers_at n kinds old (x + 1));
    }
