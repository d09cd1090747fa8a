use Rattle.std.proofs.Common.{◌≡◌, map, drop}
use Rattle.import_words.specs.Words.{files_named}
use Rattle.import_words.proofs.Found.{with_found}
use Rattle.import_words.proofs.words.said_of.Given as goal

abbrev pub invariant-loop-word : goal.invariant-loop-word
invariant-loop-word l = files_named l.uid (map (λ word. word.now) l.words) ≡ with_found l.found (files_named l.uid (map (λ word. word.now) (drop l.word-index l.words)))
