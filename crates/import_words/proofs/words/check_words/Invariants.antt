use Rattle.std.proofs.Common.{◌≡◌, map, drop}
use Rattle.std.specs.List.{list_all}
use Rattle.import_words.specs.Words.{names_some}
use Rattle.import_words.proofs.words.check_words.Given as goal

abbrev pub invariant-loop-word : goal.invariant-loop-word
invariant-loop-word l = list_all (names_some l.sources) (map (λ word. word.now) l.words) ≡ list_all (names_some l.sources) (map (λ word. word.now) (drop l.word-index l.words))
