use Rattle.std.proofs.Common.{◌≡◌, true, ◌<◌, ℕ, ℤ, pos, ◌+◌, ◌*◌, ◌^◌, ◌≤◌, List, drop, length, unsigned_abs, slice_index_or}
use Rattle.std.specs.List.{All}
use Rattle.byte_fields.specs.Fields.{is_i64}
use Rattle.aggregates.specs.declared.kind.Kind.TheVariants.{Sum}
use Rattle.place_words.specs.declared.words.PlacedRow.{PlacedRow}
use Rattle.place_words.specs.Words.{word, sum_of}
use Rattle.place_words.specs.PlacedRows.{rows_to, merged_to, AreApart}
use Rattle.place_words.proofs.words.add_sums.Given as goal

abbrev pub invariant-loop-placed : goal.invariant-loop-placed
invariant-loop-placed l =
    let f = λ (r : PlacedRow). slice_index_or l.numbers r.row (pos 0) in
    let rest = drop l.placed-index l.rows in
    let sum = λ (ws : List ℤ) (x : ℕ). sum_of (word ws (x + l.offset)) (word ws (x + l.offset + 1)) in record {
      len : length l.words ≡ length l.fn.words;
      small : All (λ r. unsigned_abs (sum l.words r.at) + rows_to r.at rest * 2 ^ 63 ≤ 2 ^ 104) l.rows;
      fit : (k : ℕ) → k < l.placed-index → (d : PlacedRow) → is_i64 (f (slice_index_or l.rows k d)) ≡ true;
      others : (y : ℕ) → All (λ r. r.at + l.offset ≤ y → r.at + l.offset + 2 ≤ y) l.rows → word l.words y ≡ word l.fn.words y;
      added : (x : ℕ) → All (λ r. AreApart 2 x r.at) l.rows → merged_to Sum f x rest (sum l.words x) ≡ merged_to Sum f x l.rows (sum l.fn.words x);
    }
