-- Rows of cells, and tests of lists that are mapped.
use Rattle.std.proofs.Common.{◌≡◌, ℕ, Bool, ◌&&◌, map, List, [], ◌∷◌, Option, ℤ, ◌<◌, length, pos, get_or, refl, sym, ap, ◌∙◌}
use Rattle.std.proofs.lemmas.List.{get_or-map}
use Rattle.std.specs.List.{list_all}
use Rattle.plain_data.specs.Record.{at}
use Rattle.input_texts.specs.Said.{number_of, record_of}

pub list_all_map : {A B : Type 0} (test : B → Bool) (f : A → B) (xs : List A) → list_all test (map f xs) ≡ list_all (λ x. test (f x)) xs
list_all_map test f [] = refl
list_all_map test f (x ∷ xs) = ap (λ (b : Bool). test (f x) && b) (list_all_map test f xs)

-- the number at a place of a row of cells
pub number_in : (row : List (Option ℤ)) (column : ℕ) (cell : Option ℤ) → column < length row → cell ≡ get_or row column cell → at column (record_of row) ≡ number_of cell
number_in row column cell there is = get_or-map number_of row column cell (pos 0) there ∙ ap number_of (sym is)
