-- Rows are read from their text: rows that are read from a text are those that it was printed of.
use Rattle.std.proofs.Common.{◌≡◌, ◌≢◌, ℤ, pos, List, [], ◌∷◌, ◌++◌, length, get_or, drop, arith, refl, sym, ap, ◌∙◌, append_assoc, length-append}
use Rattle.std.specs.List.{AllByRecursion}
use Rattle.plan_model.specs.declared.spec.Row.{Row}
use Rattle.row_lines.specs.Text.{text_of_row, line_of, text_of_rows}
use Rattle.row_lines.specs.Rows.{IsRow, numbers_in}
use Rattle.row_lines.proofs.Texts.{row_text, row_numbers, numbers_unique}
use Rattle.row_lines.proofs.Feeds.{row_no_feed, first_line}

abbrev row_of : List ℤ → Row
row_of numbers = record { start = get_or numbers 0 (pos 0); end = get_or numbers 1 (pos 0); key = get_or numbers 2 (pos 0); values = drop 3 numbers }

-- of a row that is read: the other may be any
same_row : (read row : Row) → IsRow read → text_of_row read ≡ text_of_row row → read ≡ row
same_row read row is e =
    ap row_of (numbers_unique (numbers_in read) (numbers_in row) (row_numbers read is) (omega arith) (sym (row_text read) ∙ e ∙ row_text row))

has_line : (row : Row) (rows : List Row) → text_of_rows (row ∷ rows) ≢ []
has_line row rows e =
    let long = length-append (line_of row) (text_of_rows rows) in
    let long' = length-append (text_of_row row) (10 ∷ []) in
    let none : length (line_of row ++ text_of_rows rows) ≡ 0 = ap length e in
    omega arith

-- rows that are read from a text are those that it is of
pub rows_read : (read rows : List Row) → AllByRecursion IsRow read → text_of_rows read ≡ text_of_rows rows → read ≡ rows
rows_read [] [] are e = refl
rows_read [] (row ∷ rows) are e = absurd (has_line row rows (sym e))
rows_read (x ∷ read) [] are e = absurd (has_line x read e)
rows_read (x ∷ read) (row ∷ rows) are e =
    let split = first_line (text_of_row x) (text_of_row row) (text_of_rows read) (text_of_rows rows) (row_no_feed x) (row_no_feed row)
    (sym (append_assoc (text_of_row x) (10 ∷ []) (text_of_rows read)) ∙ e ∙ append_assoc (text_of_row row) (10 ∷ []) (text_of_rows rows)) in
    let head = same_row x row are.0 split.0 in
    let tail = rows_read read rows are.1 split.1 in
    λ i. head i ∷ tail i
