-- From numbers that stand row after row to a batch.
use Rattle.std.proofs.Common.{◌≡◌, ℕ, ℤ, pos, zero, suc, ◌+◌, ◌*◌, ◌/◌, ◌<◌, ◌≤◌, ◌==◌, ◌&&◌, nat_le, true, map, length, get_or, List, [], ◌∷◌, ◌++◌, Option, Some, refl, sym, ap, ◌∙◌, arith}
use Rattle.std.proofs.lemmas.Bool.{eqb-true, le-leb}
use Rattle.std.proofs.lemmas.List.{length-map, length-append, get_or-map, get_or_append_left, get_or-append-add}
use Rattle.std.proofs.lemmas.List.Elements.{All-map}
use Rattle.std.proofs.lemmas.List.FromFn.{fill_by_all, length-map-range_with_len, get_or-map-range_with_len}
use Rattle.std.proofs.lemmas.List.Sums.{AllPass-from_list_all}
use Rattle.std.proofs.Math.Nat.{mul-div_cancel}
use Rattle.std.specs.List.{All, flat_map, list_all, range_with_len}
use Rattle.plain_data.specs.Record.{Record, at, column_of}
use Rattle.columns.specs.Table.{Table, rows_of, columns_in}
use Rattle.columns.proofs.Facts.{rows_of-column_of, length-flat_map, columns_in-flat_map}
use Rattle.columns.specs.declared.TheConstants.{MOST_ROWS}
use Rattle.json_tokens.specs.Rows.{joined}
use Rattle.stream_model.specs.declared.entry.Entry.TheVariants.{Rows}
use Rattle.input_texts.specs.declared.text.EntryText.TheVariants.{Rows as rows}
use Rattle.input_texts.specs.Said.{number_of, record_of}
use Rattle.plan_model.specs.Windows.{is_time}
use Rattle.input_texts.specs.Requirements.{is_wide, is_whole, is_timely}
use Rattle.stream_input.specs.Fit.{column_in_cells, is_fit, if_fit}
use Rattle.input_texts.proofs.Facts.{list_all_map}

abbrev IsEven : ℕ → List Record → Type 0
IsEven width records = All (λ r. length r ≡ width) records

first_of : (width : ℕ) (r : Record) (rs : List Record) → IsEven width (r ∷ rs) → length r ≡ width
first_of width r rs even = even 0 r (omega arith)

others_of : (width : ℕ) (r : Record) (rs : List Record) → IsEven width (r ∷ rs) → IsEven width rs
others_of width r rs even = λ k d h. even (suc k) d (omega arith)

length_joined : (width : ℕ) (rs : List Record) → IsEven width rs → length (joined rs) ≡ length rs * width
length_joined width [] even = omega arith
length_joined width (r ∷ rs) even =
    let long = length_joined width rs (others_of width r rs even) in
    let first = first_of width r rs even in
    omega (arith, length-append r (joined rs))

cell_at : (width c : ℕ) (rs : List Record) (k : ℕ) → IsEven width rs → c < width → k < length rs → get_or (joined rs) (k * width + c) (pos 0) ≡ at c (get_or rs k [])
cell_at width c [] k even c_in k_in = absurd (omega arith)
cell_at width c (r ∷ rs) zero even c_in k_in =
    let first = first_of width r rs even in
    let place : zero * width + c ≡ c = omega arith in
    let inside : c < length r = omega arith in
    ap (λ i. get_or (r ++ joined rs) i (pos 0)) place ∙ get_or_append_left r (joined rs) (pos 0) c inside
cell_at width c (r ∷ rs) (suc k) even c_in k_in =
    let first = first_of width r rs even in
    let place : suc k * width + c ≡ length r + (k * width + c) = omega arith in
    ap (λ i. get_or (r ++ joined rs) i (pos 0)) place ∙ get_or-append-add r (joined rs) (k * width + c) (pos 0) ∙ cell_at width c rs k (others_of width r rs even) c_in (omega arith)

column_is : (width c : ℕ) (rs : List Record) → IsEven width rs → c < width → column_of c rs ≡ column_in_cells width (length rs) (joined rs) c
column_is width c rs even c_in =
    fill_by_all (λ k. get_or (joined rs) (k * width + c) (pos 0)) (column_of c rs) (length rs) (pos 0) (length-map rs (at c))
    (λ k h. get_or-map (at c) rs k [] (pos 0) h ∙ sym (cell_at width c rs k even c_in h))

-- a record of the whole numbers of a row of cells
even_records : (width : ℕ) (found : List (List (Option ℤ))) → is_wide width (rows found) ≡ true → IsEven width (map record_of found)
even_records width found wide =
    All-map (λ (r : Record). length r ≡ width) record_of found
    (λ k d h. length-map (get_or found k d) number_of ∙ eqb-true (length (get_or found k d)) width (AllPass-from_list_all (λ row. length row == width) found wide k d h))

-- columns of cells are as long as there are rows
length_column : (width count : ℕ) (cells : List ℤ) (c : ℕ) → c < width → length (column_in_cells width count cells c) ≡ count
length_column width count cells c c_in = length-map-range_with_len (λ row. get_or cells (row * width + c) (pos 0)) 0 count

pub whole_columns : (width count : ℕ) (cells numbers : List ℤ) → numbers ≡ flat_map (column_in_cells width count cells) (range_with_len 0 width) → length numbers ≡ width * count
whole_columns width count cells numbers are = ap (length {A = ℤ}) are ∙ length-flat_map (column_in_cells width count cells) width count (length_column width count cells)

all_columns : (width : ℕ) (rs : List Record) → IsEven width rs → map (column_in_cells width (length rs) (joined rs)) (range_with_len 0 width) ≡ map (λ c. column_of c rs) (range_with_len 0 width)
all_columns width rs even =
    sym (fill_by_all (column_in_cells width (length rs) (joined rs)) (map (λ c. column_of c rs) (range_with_len 0 width)) width [] (length-map-range_with_len (λ c. column_of c rs) 0 width)
    (λ k h. get_or-map-range_with_len (λ c. column_of c rs) 0 width k k [] h (omega arith) ∙ column_is width k rs even h))

sized_from : (n : ℕ) → 1 ≤ n → n ≤ MOST_ROWS → (nat_le 1 n && nat_le n MOST_ROWS) ≡ true
sized_from n some few = rw (le-leb 1 n some, le-leb n MOST_ROWS few) refl

pub fit_batch : (width time count : ℕ) (cells numbers : List ℤ) (batch : Table) → count ≡ length cells / width → 1 ≤ width → 1 ≤ count → count ≤ MOST_ROWS
    → numbers ≡ flat_map (column_in_cells width count cells) (range_with_len 0 width) → batch ≡ record { width = width; rows = rows_of (columns_in numbers width count) count }
    → list_all is_time (column_of time batch.rows) ≡ true
    → (found : List (List (Option ℤ))) → is_wide width (rows found) ≡ true → is_whole (rows found) ≡ true → joined (map record_of found) ≡ cells → if_fit width time (rows found) ≡ Some (Rows batch)
fit_batch width time count cells numbers batch counted positive some few are made timely found wide whole is =
    let rs = map record_of found in
    let even = even_records width found wide in
    let many : length cells ≡ length rs * width = ap (length {A = ℤ}) (sym is) ∙ length_joined width rs even in
    let all : length rs ≡ count = sym (counted ∙ ap (λ n. n / width) many ∙ mul-div_cancel (length rs) (omega arith)) in
    let columned : columns_in numbers width count ≡ map (λ c. column_of c rs) (range_with_len 0 width) =
    ap (λ (ns : List ℤ). columns_in ns width count) are ∙ columns_in-flat_map (column_in_cells width count cells) width count (length_column width count cells)
    ∙ ap (λ n. map (column_in_cells width n cells) (range_with_len 0 width)) (sym all) ∙ ap (λ xs. map (column_in_cells width (length rs) xs) (range_with_len 0 width)) (sym is) ∙ all_columns width rs even in
    let same : rows_of (columns_in numbers width count) count ≡ rs = (λ o. rows_of (columned o) (sym all o)) ∙ rows_of-column_of rs width even in
    let table : batch ≡ record { width = width; rows = rs } = made ∙ (λ o. record { width = width; rows = same o }) in
    let times : list_all is_time (column_of time rs) ≡ true = ap (λ (t : Table). list_all is_time (column_of time t.rows)) (sym table) ∙ timely in
    let in_time : is_timely time (rows found) ≡ true = sym (list_all_map (λ r. is_time (at time r)) record_of found) ∙ sym (list_all_map is_time (at time) rs) ∙ times in
    let sized = sized_from (length found) (omega (arith, length-map found record_of)) (omega (arith, length-map found record_of)) in
    let fit : is_fit width time (rows found) ≡ true = rw (wide, whole, sized, in_time) refl in
    rw fit (ap (λ (b : Table). Some (Rows b)) (sym table))
