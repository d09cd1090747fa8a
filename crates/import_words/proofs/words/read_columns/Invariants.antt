use Rattle.std.proofs.Common.{map}
use Rattle.import_words.specs.Words.{AreColumns}
use Rattle.import_words.proofs.words.read_columns.Given as goal

abbrev pub invariant-loop-one : goal.invariant-loop-one
invariant-loop-one l = AreColumns (map (λ word. word.now) l.yielded) l.columns.items
