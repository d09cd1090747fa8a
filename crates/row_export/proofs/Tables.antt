-- Records that are written one behind the other.
use Rattle.std.proofs.Common.{◌≡◌, ℕ, List, [], ◌∷◌, ◌++◌, Option, Some, None, IfSome, sym, ap, subst, ◌∙◌, append_assoc, append-nil}
use Rattle.std.specs.Io.KnownBytes.{Appends, Consumes, IsAtEnd}
use Rattle.std.specs.List.{flat_map}
use Rattle.std.proofs.lemmas.List.Concat.{flat_map-cons}
use Rattle.plan_model.specs.declared.spec.Pane.{Pane}
use Rattle.plan_model.specs.declared.spec.Row.{Row}
use Rattle.plan_model.specs.Rows.{pane_of}
use Rattle.row_lines.specs.Rows.{numbers_in}
use Rattle.row_lines.specs.Sequences.{AreRows, IsRead, rows_left, width_of, last_of}
use Rattle.row_lines.specs.Text.{line_of, text_of_rows}
use Rattle.row_lines.specs.declared.rows.RowLines.{RowLines}
use Rattle.row_lines.proofs.Places.{appends_more}
use Rattle.row_tables.specs.declared.kind.CellKind.{CellKind}
use Rattle.row_export.specs.Shown.{ShowsRow, WritesTable}

pub appends_none : (a : Option (List ℕ)) → Appends a a []
appends_none None = tt
appends_none (Some a) = sym (append-nil a)

text_more : (old new : Option (List ℕ)) (row : Row) (behind : List Row) → Consumes old new (line_of row) → IfSome new (λ bytes. bytes ≡ text_of_rows behind) → IfSome old (λ bytes. bytes ≡ text_of_rows (row ∷ behind))
text_more None new row behind takes h = tt
text_more (Some xs) None row behind takes h = absurd takes
text_more (Some xs) (Some ys) row behind takes h = takes ∙ ap (λ l. line_of row ++ l) h ∙ sym (flat_map-cons line_of row behind)

text_end : (old : Option (List ℕ)) → IsAtEnd old → IfSome old (λ bytes. bytes ≡ text_of_rows [])
text_end None h = tt
text_end (Some xs) h = h

-- nothing is left
pub finished : (line : List (List ℕ) → List ℕ) (kinds : List CellKind) (names : List (List ℕ)) (width : Option ℕ) (last : Option Pane) (text out : Option (List ℕ)) → IsAtEnd text → WritesTable line kinds names [] width last text out out
finished line kinds names width last text out end = record { rows = []; records = []; are = tt; read = text_end text end; shown = tt; written = appends_none out }

-- a row that is read and written before what comes behind it
pub passed : {R : Type 0} (remaining : R → Option (List ℕ)) (line : List (List ℕ) → List ℕ) (kinds : List CellKind) (names : List (List ℕ)) (old new : RowLines R) (row : Row) (cells : List (List ℕ)) (before out after : Option (List ℕ))
    → IsRead remaining old new row → ShowsRow kinds names (numbers_in row) cells → Appends before out (line cells) → WritesTable line kinds names [] (width_of new) (last_of new) (rows_left remaining new) out after
    → WritesTable line kinds names [] (width_of old) (last_of old) (rows_left remaining old) before after
passed remaining line kinds names old new row cells before out after is shown puts h = record {
  rows = row ∷ h.rows;
  records = cells ∷ h.records;
  are = (is.is, is.wide, is.after, subst (λ w. AreRows w (Some (pane_of row)) h.rows) is.width (subst (λ l. AreRows (width_of new) l h.rows) is.last h.are));
  read = text_more (rows_left remaining old) (rows_left remaining new) row h.rows is.text h.read;
  shown = (shown, h.shown);
  written = subst (Appends before after) (sym (flat_map-cons line cells h.records)) (appends_more before out after (line cells) (flat_map line h.records) puts h.written);
}

-- what is still to come makes the whole
pub record Continues {R : Type 0} (remaining : R → Option (List ℕ)) (line : List (List ℕ) → List ℕ) (kinds : List CellKind) (names : List (List ℕ)) (start : RowLines R) (before : Option (List ℕ)) (rows : RowLines R) (out : Option (List ℕ)) : Type 0 where
  pub whole : (after : Option (List ℕ)) → WritesTable line kinds names [] (width_of rows) (last_of rows) (rows_left remaining rows) out after
      → WritesTable line kinds names [] (width_of start) (last_of start) (rows_left remaining start) before after

pub begins : {R : Type 0} (remaining : R → Option (List ℕ)) (line : List (List ℕ) → List ℕ) (kinds : List CellKind) (names : List (List ℕ)) (start : RowLines R) (before : Option (List ℕ)) → Continues remaining line kinds names start before start before
begins remaining line kinds names start before = record { whole = λ after h. h }

pub goes_on : {R : Type 0} (remaining : R → Option (List ℕ)) (line : List (List ℕ) → List ℕ) (kinds : List CellKind) (names : List (List ℕ)) (start : RowLines R) (before : Option (List ℕ)) (old new : RowLines R) (out next : Option (List ℕ)) (row : Row)
    (cells : List (List ℕ)) → Continues remaining line kinds names start before old out → IsRead remaining old new row → ShowsRow kinds names (numbers_in row) cells → Appends out next (line cells) → Continues remaining line kinds names start before new next
goes_on remaining line kinds names start before old new out next row cells h is shown puts =
    record { whole = λ after left. h.whole after (passed remaining line kinds names old new row cells out next after is shown puts left) }
