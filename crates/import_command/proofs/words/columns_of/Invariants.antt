use Rattle.std.proofs.Common.{◌≡◌, map, Option, Some, ℕ}
use Rattle.import_command.specs.Once.{column_of}
use Rattle.import_command.proofs.words.columns_of.Given as goal

abbrev pub invariant-loop-field : goal.invariant-loop-field
invariant-loop-field l = map (column_of l.columns) (map (λ word. word.now) l.yielded) ≡ map (λ place. Some place) l.found.items
