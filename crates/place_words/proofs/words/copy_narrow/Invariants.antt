use Rattle.std.proofs.Common.{◌≡◌, ◌+◌, ◌++◌, length, map, drop, take}
use Rattle.std.specs.List.{list_all}
use Rattle.aggregates.specs.Kinds.{kind_of}
use Rattle.byte_fields.specs.Fields as fields
use Rattle.place_words.specs.Words as words_of
use Rattle.place_words.specs.Words.{width}
use Rattle.place_words.proofs.words.copy_narrow.Given as goal

abbrev pub invariant-loop-i : goal.invariant-loop-i
invariant-loop-i l =
    let rest = map kind_of (drop l.i l.aggregates) in record {
      long : length l.numbers ≡ length l.aggregates;
      end : l.at + width rest ≡ l.fn.at + width (map kind_of l.aggregates);
      done : take l.i l.numbers ++ words_of.numbers_at l.count rest l.words l.at ≡ words_of.numbers_at l.count (map kind_of l.aggregates) l.words l.fn.at;
      fits : list_all fields.is_i64 (words_of.numbers_at l.count rest l.words l.at) ≡ list_all fields.is_i64 (words_of.numbers_at l.count (map kind_of l.aggregates) l.words l.fn.at);
    }
