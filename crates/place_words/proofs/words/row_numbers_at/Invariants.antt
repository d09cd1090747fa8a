use Rattle.std.proofs.Common.{◌≡◌, ◌+◌, ◌++◌, map, drop}
use Rattle.aggregates.specs.Kinds.{kind_of}
use Rattle.place_words.specs.Words as words_of
use Rattle.place_words.specs.Words.{width}
use Rattle.place_words.proofs.words.row_numbers_at.Given as goal

abbrev pub invariant-loop-aggregate : goal.invariant-loop-aggregate
invariant-loop-aggregate l =
    let rest = map kind_of (drop l.aggregate-index l.aggregates) in record {
      end : l.at + width rest ≡ l.fn.at + width (map kind_of l.aggregates);
      numbers : l.numbers ++ words_of.numbers_at l.count rest l.words l.at ≡ words_of.numbers_at l.count (map kind_of l.aggregates) l.words l.fn.at;
    }
