use Rattle.std.proofs.Common.{ℤ, List, IfOk, subst, ◌∙◌}
use Rattle.row_lines.specs.Rows.{numbers_in, GivesRowOf}
use Rattle.row_lines.proofs.Texts.{row_text, row_numbers, row_given}
use Rattle.row_lines.proofs.row.read_row.Goals as goal

pub returns-in-None : goal.returns-in-None
returns-in-None c = λ row is_row is. c.in-None.ensures (numbers_in row) (row_numbers row is_row) (is ∙ row_text row)

pub returns-in-Some : goal.returns-in-Some
returns-in-Some c =
    row_given c.row_of.result c.args.line.now c.in-Some.numbers.items c.in-Some.ensures.0 c.in-Some.ensures.1 (subst (λ (ns : List ℤ). IfOk c.row_of.result (GivesRowOf ns)) c.as_slice.ensures.value c.row_of.ensures)
