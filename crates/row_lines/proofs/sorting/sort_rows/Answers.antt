use Rattle.std.proofs.Common.{rules}
use Rattle.std.proofs.lemmas.List.Sorted.{answers_always}
use Rattle.plan_model.specs.Rows.{pane_of}
use Rattle.row_lines.proofs.Sorts.{same_rows}
use Rattle.row_lines.proofs.sorting.sort_rows.Goals as goal

pub returns-clause-ordered : goal.returns-clause-ordered
returns-clause-ordered c = c.in_ok-sort_by_key.ensures.sorted pane_of (answers_always _ _ _ (λ f a r g h. search rules))

pub returns-clause-same : goal.returns-clause-same
returns-clause-same c f are = same_rows _ _ (c.sort_by_key.ensures.stable pane_of (answers_always _ _ _ (λ f a r g h. search rules))) f are
