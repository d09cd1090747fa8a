-- The rows at some places, and their columns.
use Rattle.std.proofs.Common.{◌≡◌, ℕ, ℤ, pos, ◌<◌, List, [], length, map, get_or, sym, ap, ◌∙◌, arith, Vec, Global}
use Rattle.std.specs.List.{All, range_with_len}
use Rattle.std.proofs.lemmas.List.{get_or-map, length-map, same_lists}
use Rattle.std.proofs.lemmas.List.FromFn.{get_or-map-range_with_len, length-map-range_with_len}
use Rattle.plain_data.specs.Record.{Record, at, column_of}

-- the rows at some places
abbrev pub rows_at : List ℕ → List Record → List Record
rows_at places rows = map (λ place. get_or rows place []) places

-- a column of them has the numbers at those places of the column
pub column_of-rows_at : (places : List ℕ) (rows : List Record) (c : ℕ) → All (λ place. place < length rows) places
    → map (λ place. get_or (column_of c rows) place (pos 0)) places ≡ column_of c (rows_at places rows)
column_of-rows_at places rows c inside =
    let number = λ (place : ℕ). get_or (column_of c rows) place (pos 0) in
    let row = λ (place : ℕ). get_or rows place [] in
    same_lists (map number places) (column_of c (rows_at places rows))
    (length-map places number ∙ sym (length-map (rows_at places rows) (at c) ∙ length-map places row))
    (λ k d h.
    let there : k < length places = omega (arith, length-map places number) in
    let in_rows : k < length (rows_at places rows) = omega (arith, length-map places row) in
    get_or-map number places k 0 d there ∙ get_or-map (at c) rows (get_or places k 0) [] (pos 0) (inside k 0 there)
    ∙ sym (get_or-map (at c) (rows_at places rows) k [] d in_rows ∙ ap (at c) (get_or-map row places k 0 [] there)))

-- rows at places have the width that all rows have
pub rows_at_even : (places : List ℕ) (rows : List Record) (width : ℕ) → All (λ place. place < length rows) places → All (λ row. length row ≡ width) rows
    → All (λ row. length row ≡ width) (rows_at places rows)
rows_at_even places rows width inside even = λ k d h.
    let row = λ (place : ℕ). get_or rows place [] in
    let there : k < length places = omega (arith, length-map places row) in
    ap (length {A = ℤ}) (get_or-map row places k 0 d there) ∙ even (get_or places k 0) [] (inside k 0 there)

-- the list that stands at a place, where vectors hold what `f` gives of each place
pub items_at : {X : Type 0} (vectors : List (Vec X Global)) (f : ℕ → List X) (n k : ℕ) (x : Vec X Global)
    → map (λ v. v.items) vectors ≡ map f (range_with_len 0 n) → k < length vectors → x ≡ get_or vectors k x → x.items ≡ f k
items_at {X} vectors f n k x are h is =
    let below : k < n = omega (arith, ap length are, length-map vectors (λ (v : Vec X Global). v.items), length-map-range_with_len f 0 n) in
    ap (λ (v : Vec X Global). v.items) is ∙ sym (get_or-map (λ (v : Vec X Global). v.items) vectors k x [] h)
    ∙ ap (λ (ls : List (List X)). get_or ls k []) are ∙ get_or-map-range_with_len f 0 n k k [] below (omega arith)
