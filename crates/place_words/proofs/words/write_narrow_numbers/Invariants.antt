use Rattle.std.proofs.Common.{◌≡◌, true, ℕ, ℤ, List, ◌+◌, ◌≤◌, map, drop}
use Rattle.aggregates.specs.Kinds.{kind_of, are_numbers}
use Rattle.place_words.specs.Words as words_of
use Rattle.place_words.specs.Words.{width, IsWritten}
use Rattle.place_words.proofs.Numbers.{AgreeBelow}
use Rattle.place_words.proofs.words.write_narrow_numbers.Given as goal

abbrev pub invariant-loop-i : goal.invariant-loop-i
invariant-loop-i l =
    let rest = map kind_of (drop l.i l.aggregates) in record {
      start : l.fn.at ≤ l.at;
      end : l.at + width rest ≡ l.fn.at + width (map kind_of l.aggregates);
      fit : (n : ℕ) → are_numbers n (map kind_of l.aggregates) l.numbers ≡ true → are_numbers n rest (drop l.i l.numbers) ≡ true;
      others : IsWritten l.fn.at l.at l.fn.words l.words;
      written : (n : ℕ) (ws : List ℤ) → are_numbers n (map kind_of l.aggregates) l.numbers ≡ true → AgreeBelow l.at l.words ws
          → words_of.numbers_at n rest ws l.at ≡ drop l.i l.numbers
          → words_of.numbers_at n (map kind_of l.aggregates) ws l.fn.at ≡ l.numbers;
    }
