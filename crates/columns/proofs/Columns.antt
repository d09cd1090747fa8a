-- Columns and the rows that they make.
use Rattle.std.proofs.Common.{◌≡◌, ℕ, ℤ, pos, zero, suc, inl, inr, ◌+◌, ◌*◌, ◌<◌, ◌≤◌, List, [], ◌∷◌, ◌++◌, length, map, get_or, take, drop, sym, ◌∙◌, ap, refl, arith}
use Rattle.std.specs.List.{All, flat_map, range_with_len}
use Rattle.std.proofs.Math.Nat.{mul-le-mul_right}
use Rattle.std.proofs.lemmas.List.{drop-append-le, drop_at, flat_map_more, get_or-map, get_or_default, length-append, length-drop, length-map, length-take-le, same_lists, take-append-le, take_all}
use Rattle.std.proofs.lemmas.List.FromFn.{fill_by_all, get_or-map-range_with_len, length-map-range_with_len}
use Rattle.std.proofs.lemmas.Bool.{cases_eq}
use Rattle.columns.specs.Table.{AreColumns, row_at, rows_of, columns_in, by_columns, Table}
use Rattle.columns.proofs.Kept.{range_more}
use Rattle.plain_data.specs.Record.{Record, at, column_of}

-- the number in column c of row i is number i of column c
at-row_at : (columns : List (List ℤ)) (c i : ℕ) → c < length columns → at c (row_at columns i) ≡ get_or (get_or columns c []) i (pos 0)
at-row_at columns c i h = get_or-map (λ column. get_or column i (pos 0)) columns c [] (pos 0) h

pub length-rows_of : (columns : List (List ℤ)) (n : ℕ) → length (rows_of columns n) ≡ n
length-rows_of columns n = length-map-range_with_len (row_at columns) 0 n

-- column c of the rows that columns make is the column
column_of-rows_of : (columns : List (List ℤ)) (n c : ℕ) → c < length columns → length (get_or columns c []) ≡ n
    → column_of c (rows_of columns n) ≡ get_or columns c []
column_of-rows_of columns n c h long =
    same_lists (column_of c (rows_of columns n)) (get_or columns c [])
    (length-map (rows_of columns n) (at c) ∙ length-rows_of columns n ∙ sym long)
    (λ k d k_in.
    let in_rows : k < n = rw (length-map, length-rows_of columns n) at k_in in
    let in_range : k < length (rows_of columns n) = rw (length-rows_of columns n) in_rows in
    let in_column : k < length (get_or columns c []) = rw long in_rows in
    get_or-map (at c) (rows_of columns n) k [] d in_range
    ∙ ap (at c) (get_or-map-range_with_len (row_at columns) 0 n k k [] in_rows (omega arith))
    ∙ at-row_at columns c k h
    ∙ get_or_default (get_or columns c []) k (pos 0) d in_column)

map-map : {X Y Z : Type 0} (g : Y → Z) (f : X → Y) (xs : List X) → map g (map f xs) ≡ map (λ x. g (f x)) xs
map-map g f [] = refl
map-map g f (x ∷ xs) = ap (λ ys. g (f x) ∷ ys) (map-map g f xs)

-- the rows of the columns of rows of one width are the rows
pub rows_of-column_of : (rows : List (List ℤ)) (width : ℕ) → All (λ row. length row ≡ width) rows
    → rows_of (map (λ c. column_of c rows) (range_with_len 0 width)) (length rows) ≡ rows
rows_of-column_of rows width even =
    let columns : List (List ℤ) = map (λ c. column_of c rows) (range_with_len 0 width) in
    sym (fill_by_all (row_at columns) rows (length rows) [] refl (λ k k_in.
    fill_by_all (λ c. get_or (column_of c rows) k (pos 0)) (get_or rows k []) width (pos 0) (even k [] k_in)
    (λ c c_in. sym (get_or-map (at c) rows k [] (pos 0) k_in))
    ∙ sym (map-map (λ (column : List ℤ). get_or column k (pos 0)) (λ c. column_of c rows) (range_with_len 0 width))))

-- a column ends where the numbers end, or before
pub column_ends : (width count c : ℕ) → c < width → c * count + count ≤ width * count
column_ends width count c h = let within = mul-le-mul_right {m = suc c} {n = width} count (omega arith) in omega (arith, within)

-- the column at c of numbers that stand column after column
length_column : (numbers : List ℤ) (width count c : ℕ) → length numbers ≡ width * count → c < width → length (take count (drop (c * count) numbers)) ≡ count
length_column numbers width count c whole h =
    let ends = column_ends width count c h in
    length-take-le count (drop (c * count) numbers) (omega (arith, length-drop (c * count) numbers))

pub column_is : (numbers : List ℤ) (width count c : ℕ) → length numbers ≡ width * count → c < width
    → take count (drop (c * count) numbers) ≡ column_of c (rows_of (columns_in numbers width count) count)
column_is numbers width count c whole h =
    let columns : List (List ℤ) = columns_in numbers width count in
    let there : get_or columns c [] ≡ take count (drop (c * count) numbers) = get_or-map-range_with_len (λ k. take count (drop (k * count) numbers)) 0 width c c [] h (omega arith) in
    let inside : c < length columns = omega (arith, length-map-range_with_len (λ k. take count (drop (k * count) numbers)) 0 width) in
    sym (column_of-rows_of columns count c inside (ap (length {A = ℤ}) there ∙ length_column numbers width count c whole h) ∙ there)

-- each row has a number for each column
pub rows_even : (numbers : List ℤ) (width count : ℕ) → All (λ row. length row ≡ width) (rows_of (columns_in numbers width count) count)
rows_even numbers width count = λ k d h.
    let columns : List (List ℤ) = columns_in numbers width count in
    let below : k < count = omega (arith, length-rows_of columns count) in
    ap (length {A = ℤ}) (get_or-map-range_with_len (row_at columns) 0 count k k d below (omega arith))
    ∙ length-map columns (λ (column : List ℤ). get_or column k (pos 0)) ∙ length-map-range_with_len (λ c. take count (drop (c * count) numbers)) 0 width

-- one column more
pub flat_map-more : (f : ℕ → List ℤ) (n : ℕ) → flat_map f (range_with_len 0 n) ++ f n ≡ flat_map f (range_with_len 0 (n + 1))
flat_map-more f n = flat_map_more f [] (range_with_len 0 n) n ∙ ap (flat_map f) (sym (range_more n))

-- columns of `count` numbers, of which that at c is f c
abbrev AreLong : (ℕ → List ℤ) → ℕ → ℕ → Type 0
AreLong f width count = (c : ℕ) → c < width → length (f c) ≡ count

pub length-flat_map : (f : ℕ → List ℤ) (width count : ℕ) → AreLong f width count → length (flat_map f (range_with_len 0 width)) ≡ width * count
length-flat_map f zero count long = omega arith
length-flat_map f (suc w) count long =
    let before = length-flat_map f w count (λ c h. long c (omega arith)) in
    let last = long w (omega arith) in
    let one : w + 1 ≡ suc w = omega arith in
    let more : flat_map f (range_with_len 0 w) ++ f w ≡ flat_map f (range_with_len 0 (suc w)) = flat_map-more f w ∙ ap (λ n. flat_map f (range_with_len 0 n)) one in
    omega (arith, ap (length {A = ℤ}) more, length-append (flat_map f (range_with_len 0 w)) (f w))

column_in-flat_map : (f : ℕ → List ℤ) (width count c : ℕ) → AreLong f width count → c < width → take count (drop (c * count) (flat_map f (range_with_len 0 width))) ≡ f c
column_in-flat_map f zero count c long h = absurd (omega arith)
column_in-flat_map f (suc w) count c long h =
    let before : List ℤ = flat_map f (range_with_len 0 w) in
    let short : AreLong f w count = λ k k_in. long k (omega arith) in
    let one : w + 1 ≡ suc w = omega arith in
    let more : flat_map f (range_with_len 0 (suc w)) ≡ before ++ f w = sym (flat_map-more f w ∙ ap (λ n. flat_map f (range_with_len 0 n)) one) in
    let filled = length-flat_map f w count short in
    ap (λ (numbers : List ℤ). take count (drop (c * count) numbers)) more
    ∙ elim (cases_eq c w) [
      | inl e ↦ (
          ap (λ n. take count (drop (n * count) (before ++ f w))) e ∙ ap (take count) (drop_at before (f w) (w * count) filled)
          ∙ take_all count (f w) (omega (arith, long w (omega arith))) ∙ ap f (sym e))
      | inr ne ↦ (
          let below : c < w = omega arith in
          let ends = column_ends w count c below in
          ap (take count) (drop-append-le (c * count) before (f w) (omega arith))
          ∙ take-append-le count (drop (c * count) before) (f w) (omega (arith, length-drop (c * count) before))
          ∙ column_in-flat_map f w count c short below)
    ]

pub columns_in-flat_map : (f : ℕ → List ℤ) (width count : ℕ) → AreLong f width count → columns_in (flat_map f (range_with_len 0 width)) width count ≡ map f (range_with_len 0 width)
columns_in-flat_map f width count long =
    let numbers : List ℤ = flat_map f (range_with_len 0 width) in
    let column : ℕ → List ℤ = λ c. take count (drop (c * count) numbers) in
    fill_by_all f (columns_in numbers width count) width [] (length-map-range_with_len column 0 width)
    (λ c h. get_or-map-range_with_len column 0 width c c [] h (omega arith) ∙ column_in-flat_map f width count c long h)

-- the numbers of rows of one width, and the rows again
pub by_columns-more : (n : ℕ) (rows : List Record) → by_columns n rows ++ column_of n rows ≡ by_columns (n + 1) rows
by_columns-more n rows = flat_map-more (λ c. column_of c rows) n

pub by_columns_whole : (numbers : List ℤ) (rows : List Record) (width count : ℕ) → numbers ≡ by_columns width rows → length rows ≡ count → length numbers ≡ width * count
by_columns_whole numbers rows width count are counted =
    ap (length {A = ℤ}) are ∙ length-flat_map (λ c. column_of c rows) width (length rows) (λ c h. length-map rows (at c)) ∙ ap (λ n. width * n) counted

pub table_is : (numbers : List ℤ) (rows : List Record) (width count : ℕ) → numbers ≡ by_columns width rows → length rows ≡ count → All (λ row. length row ≡ width) rows
    → ◌≡◌ {A = Table} (record { width = width; rows = rows_of (columns_in numbers width count) count }) (record { width = width; rows = rows })
table_is numbers rows width count are counted even =
    let columns : columns_in (by_columns width rows) width (length rows) ≡ map (λ c. column_of c rows) (range_with_len 0 width) =
    columns_in-flat_map (λ c. column_of c rows) width (length rows) (λ c h. length-map rows (at c)) in
    rw (are, ← counted, columns, rows_of-column_of rows width even) refl

-- so few numbers that their places are no large numbers
pub few_numbers : (numbers : List ℤ) (width count : ℕ) → AreColumns numbers width count → width * count ≤ 65536
few_numbers numbers width count are =
    let within = mul-le-mul_right {m = width} {n = 16} count (omega arith) in
    omega arith
