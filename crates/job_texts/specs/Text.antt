-- The text of rows.
use Rattle.std.specs.Prelude.{◌≡◌, ℕ, ℤ, List, Option}
use Rattle.std.specs.List.Sorted.{IsSortedByKey}
use Rattle.plan_model.specs.declared.spec.Pane.{Pane}
use Rattle.plan_model.specs.declared.spec.Row.{Row}
use Rattle.plan_model.specs.Rows.{pane_of, pane_cmp, AreRowsOf}
use Rattle.row_lines.specs.Text as rows

-- the texts of numbers and of rows, as they are read again
abbrev pub spaced : ℤ → List ℕ
spaced = rows.spaced

abbrev pub line_of : Row → List ℕ
line_of = rows.line_of

abbrev pub text_of_rows : List Row → List ℕ
text_of_rows = rows.text_of_rows

-- the text is a line for each row that `f` has, in the order of (start, key)
pub record IsTextOf (f : Pane → Option Row) (text : List ℕ) : Type 0 where
  pub rows : List Row
  pub are : AreRowsOf f rows
  pub ordered : IsSortedByKey pane_of pane_cmp rows
  pub lines : text ≡ text_of_rows rows

-- rows have one text
abbrev pub TextIsDetermined : Type 0
TextIsDetermined = (f : Pane → Option Row) (s t : List ℕ) → IsTextOf f s → IsTextOf f t → s ≡ t
