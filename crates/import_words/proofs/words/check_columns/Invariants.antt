use Rattle.std.proofs.Common.{◌≡◌, ◌||◌, not, drop}
use Rattle.std.specs.List.{list_any}
use Rattle.import_words.specs.Words.{is_name}
use Rattle.import_words.proofs.words.check_columns.Given as goal

abbrev pub invariant-loop-column : goal.invariant-loop-column
invariant-loop-column l = (l.has_names || not (list_any (λ c. is_name c.kind) l.columns)) ≡ (l.has_names || not (list_any (λ c. is_name c.kind) (drop l.column-index l.columns)))
