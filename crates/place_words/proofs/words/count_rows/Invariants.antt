use Rattle.std.proofs.Common.{◌≡◌, ℕ, pos, ◌+ℤ◌, drop, length}
use Rattle.place_words.specs.Words.{word}
use Rattle.place_words.specs.PlacedRows.{rows_to}
use Rattle.place_words.proofs.words.count_rows.Given as goal

abbrev pub invariant-loop-placed : goal.invariant-loop-placed
invariant-loop-placed l =
    record {
      len : length l.words ≡ length l.fn.words;
      counted : (x : ℕ) → word l.words x +ℤ pos (rows_to x (drop l.placed-index l.rows)) ≡ word l.fn.words x +ℤ pos (rows_to x l.rows);
    }
