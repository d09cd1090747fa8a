-- The fields of a record, one after the other.
use Rattle.std.proofs.Common.{arith, ◌≡◌, ℕ, ℤ, zero, suc, ◌+◌, ◌≤◌, Bool, true, false, ◌||◌, ◌&&◌, eqb, cond, if◌then◌else◌, List, [], ◌∷◌, ◌++◌, take, length, slice_get, Some, refl, sym, ap, subst, ◌∙◌, append_assoc, append-nil}
use Rattle.std.proofs.lemmas.Bool.{false≢true, lt-ltb}
use Rattle.std.proofs.lemmas.Bool.Decides.{nat_tests}
use Rattle.std.proofs.lemmas.List.{length-take-le}
use Rattle.std.proofs.lemmas.Option.{slice_get_within}
use Rattle.std.specs.List.{list_all, list_any}
use Rattle.csv.specs.Writing.{default_writer, escaped, field_text, fields_text, is_blank, needs_byte, needs_quotes, quoted, row_body}
use Rattle.row_tables.specs.Cells.{Shows, HasDecimal}
use Rattle.row_tables.specs.Decimals.{is_decimal_byte}
use Rattle.row_tables.specs.declared.kind.CellKind.{CellKind}
use Rattle.row_export.specs.Objects.{comma_at}
use Rattle.row_export.specs.Records.{escaped_byte, HasField, HasFields, IsRecord}
use Rattle.row_export.specs.Shown.{ShowsRow}
use Rattle.row_export.proofs.Members.{as_many}
use Rattle.row_export.proofs.Rows.{row_more}

-- a field that calls for no quotes
pub field_plain : (text : List ℕ) → needs_quotes default_writer text ≡ false → field_text default_writer text ≡ text
field_plain text h = ap (λ (b : Bool). if b then quoted default_writer text else text) h

byte_plain : (b : ℕ) → is_decimal_byte b ≡ true → needs_byte default_writer b ≡ false
byte_plain b h = grind (arith, nat_tests)

both_true : (a b : Bool) → (a && b) ≡ true → (a ≡ true) × (b ≡ true)
both_true true true h = (refl, refl)
both_true true false h = absurd (false≢true h)
both_true false b h = absurd (false≢true h)

decimal_needs_none : (text : List ℕ) → list_all is_decimal_byte text ≡ true → needs_quotes default_writer text ≡ false
decimal_needs_none [] h = refl
decimal_needs_none (b ∷ text) h =
    let parts = both_true (is_decimal_byte b) (list_all is_decimal_byte text) h in
    ap (λ (c : Bool). c || list_any (needs_byte default_writer) text) (byte_plain b parts.0) ∙ decimal_needs_none text parts.1

-- a decimal calls for none
pub decimal_field : (text : List ℕ) → list_all is_decimal_byte text ≡ true → field_text default_writer text ≡ text
decimal_field text h = field_plain text (decimal_needs_none text h)

-- a decimal as a field
pub decimal_is_field : (kind : CellKind) (names : List (List ℕ)) (n : ℤ) (before after : List ℕ) → HasDecimal kind n before after → HasField kind names n before after
decimal_is_field kind names n before after h = record {
  cell = h.cell;
  shown = subst (λ k. Shows k names n h.cell) (sym h.is) (λ fits. h.said);
  text = h.text ∙ ap (λ l. before ++ l) (sym (decimal_field h.cell h.plain));
}

-- one byte more between quotes
step : (q : Bool) (b : ℕ) (xs ys tail : List ℕ) → xs ≡ ys ++ tail → (if q then 34 ∷ b ∷ xs else b ∷ xs) ≡ (if q then 34 ∷ b ∷ ys else b ∷ ys) ++ tail
step true b xs ys tail h = ap (λ l. 34 ∷ b ∷ l) h
step false b xs ys tail h = ap (λ l. b ∷ l) h

pub escaped_none : escaped default_writer [] ≡ []
unfolding escaped
escaped_none = refl

pub escaped_more : (text : List ℕ) (b : ℕ) → escaped default_writer (text ++ b ∷ []) ≡ escaped default_writer text ++ escaped_byte b
unfolding escaped
escaped_more [] b = refl
escaped_more (c ∷ text) b = step (eqb c 34) c (escaped default_writer (text ++ b ∷ [])) (escaped default_writer text) (escaped_byte b) (escaped_more text b)

fields_more : (fields : List (List ℕ)) (field : List ℕ) → fields_text default_writer (fields ++ field ∷ []) ≡ fields_text default_writer fields ++ 44 ∷ field_text default_writer field
unfolding fields_text
fields_more [] field = ap (λ l. 44 ∷ l) (append-nil (field_text default_writer field))
fields_more (f ∷ fields) field =
    ap (λ l. 44 ∷ (field_text default_writer f ++ l)) (fields_more fields field) ∙ ap (λ l. 44 ∷ l) (sym (append_assoc (field_text default_writer f) (fields_text default_writer fields) (44 ∷ field_text default_writer field)))

body_more : (fields : List (List ℕ)) (field : List ℕ) → row_body default_writer (fields ++ field ∷ []) ≡ row_body default_writer fields ++ (comma_at (length fields) ++ field_text default_writer field)
unfolding fields_text
body_more [] field = append-nil (field_text default_writer field)
body_more (f ∷ fields) field =
    let front = field_text default_writer f in
    let behind = fields_text default_writer fields in
    let last = field_text default_writer field in
    ap (λ l. front ++ l) (fields_more fields field) ∙ sym (append_assoc front behind (44 ∷ last))
    ∙ ap (λ (b : Bool). (front ++ behind) ++ (cond b (44 ∷ []) [] ++ last)) (sym (lt-ltb 0 (suc (length fields)) (omega arith)))

-- one field more
pub field_more : (kinds : List CellKind) (names : List (List ℕ)) (numbers : List ℤ) (i : ℕ) (kind : CellKind) (n : ℤ) (text before line : List ℕ) → slice_get kinds i ≡ Some kind → slice_get numbers i ≡ Some n
    → HasFields (take i kinds) names (take i numbers) before line → Shows kind names n text → HasFields (take (i + 1) kinds) names (take (i + 1) numbers) before (line ++ (comma_at i ++ field_text default_writer text))
field_more kinds names numbers i kind n text before line at_kind at_number h s =
    let within = slice_get_within kinds i kind at_kind in
    let many : length h.cells ≡ i = sym (as_many (take i kinds) names (take i numbers) h.cells h.shown) ∙ length-take-le i kinds (omega (arith, within)) in
    let tail = comma_at i ++ field_text default_writer text in
    let made : row_body default_writer (h.cells ++ text ∷ []) ≡ row_body default_writer h.cells ++ tail = body_more h.cells text ∙ ap (λ k. row_body default_writer h.cells ++ (comma_at k ++ field_text default_writer text)) many in
    record {
      cells = h.cells ++ text ∷ [];
      shown = row_more kinds names numbers h.cells i kind n text at_kind at_number h.shown s;
      text = ap (λ l. l ++ tail) h.text ∙ append_assoc before (row_body default_writer h.cells) tail ∙ ap (λ l. before ++ l) (sym made);
    }

not_blank : (cells : List (List ℕ)) → 2 ≤ length cells → is_blank default_writer cells ≡ false
unfolding is_blank
not_blank [] h = absurd (omega (arith, h))
not_blank (a ∷ []) h = absurd (omega (arith, h))
not_blank (a ∷ b ∷ cells) h = refl

-- the fields and a line feed are a record
pub record_made : (kinds : List CellKind) (names : List (List ℕ)) (numbers : List ℤ) (line : List ℕ) → 2 ≤ length kinds → HasFields kinds names numbers [] line → IsRecord kinds names numbers (line ++ 10 ∷ [])
record_made kinds names numbers line some h =
    let blank = not_blank h.cells (omega (arith, some, as_many kinds names numbers h.cells h.shown)) in
    record {
      cells = h.cells;
      shown = h.shown;
      text = ap (λ l. l ++ 10 ∷ []) h.text ∙ sym (ap (λ (b : Bool). row_body default_writer h.cells ++ ((if b then 34 ∷ 34 ∷ [] else []) ++ 10 ∷ [])) blank);
    }
