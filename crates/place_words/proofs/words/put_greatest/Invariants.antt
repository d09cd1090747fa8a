use Rattle.std.proofs.Common.{◌≡◌, true, ◌<◌, ℕ, pos, ◌+◌, ◌≤◌, drop, length, slice_index_or}
use Rattle.std.specs.List.{All}
use Rattle.byte_fields.specs.Fields.{is_i64}
use Rattle.aggregates.specs.declared.kind.Kind.TheVariants.{Greatest}
use Rattle.place_words.specs.declared.words.PlacedRow.{PlacedRow}
use Rattle.place_words.specs.Words.{word}
use Rattle.place_words.specs.PlacedRows.{merged_to}
use Rattle.place_words.proofs.words.put_greatest.Given as goal

abbrev pub invariant-loop-placed : goal.invariant-loop-placed
invariant-loop-placed l =
    let f = λ (r : PlacedRow). slice_index_or l.numbers r.row (pos 0) in record {
      len : length l.words ≡ length l.fn.words;
      fit : (k : ℕ) → k < l.placed-index → (d : PlacedRow) → is_i64 (f (slice_index_or l.rows k d)) ≡ true;
      others : (y : ℕ) → All (λ r. r.at + l.offset ≤ y → r.at + l.offset + 1 ≤ y) l.rows → word l.words y ≡ word l.fn.words y;
      put : (x : ℕ) → merged_to Greatest f x (drop l.placed-index l.rows) (word l.words (x + l.offset))
          ≡ merged_to Greatest f x l.rows (word l.fn.words (x + l.offset));
    }
