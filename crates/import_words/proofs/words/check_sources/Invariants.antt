use Rattle.std.proofs.Common.{◌≡◌, map, drop}
use Rattle.std.specs.List.{list_all}
use Rattle.import_words.specs.Words.{has_files}
use Rattle.import_words.proofs.words.check_sources.Given as goal

abbrev pub invariant-loop-source : goal.invariant-loop-source
invariant-loop-source l = list_all (has_files (map (λ word. word.now) l.words)) l.sources ≡ list_all (has_files (map (λ word. word.now) l.words)) (drop l.source-index l.sources)
