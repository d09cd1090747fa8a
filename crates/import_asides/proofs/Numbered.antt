-- Names with their numbers, one by one.
use Rattle.std.proofs.Common.{◌≡◌, ◌+◌, ◌++◌, ◌∷◌, [], ◌∙◌, ℕ, List, arith, ap, decimal, length, length-take, map, slice_get, Some, take}
use Rattle.std.specs.List.{enumerate_from}
use Rattle.std.proofs.lemmas.List.{map-append, take_more}
use Rattle.std.proofs.lemmas.Option.{get_or_from_slice_get, slice_get_within}
use Rattle.import_asides.specs.Naming.{name_records}

numbered_more : (from last : ℕ) (names : List (List ℕ)) (name : List ℕ) → from + length names ≡ last → enumerate_from from (names ++ name ∷ []) ≡ enumerate_from from names ++ (last, name) ∷ []
numbered_more from last [] name is = let same : from ≡ last = omega arith in ap (λ (number : ℕ). (number, name) ∷ []) same
numbered_more from last (first ∷ names) name is = ap (λ numbered. (from, first) ∷ numbered) (numbered_more (from + 1) last names name (omega arith))

pub name_more : (names : List (List ℕ)) (place : ℕ) (name : List ℕ) → slice_get names place ≡ Some name → name_records (take (place + 1) names) ≡ name_records (take place names) ++ (decimal (place + 1) ∷ name ∷ []) ∷ []
name_more names place name at =
    let within = slice_get_within names place name at in
    let size = length-take place names in
    ap name_records (take_more names place name within ∙ ap (λ last. take place names ++ last ∷ []) (get_or_from_slice_get names place name name at))
    ∙ ap (map (λ (numbered : ℕ × List ℕ). decimal numbered.0 ∷ numbered.1 ∷ [])) (numbered_more 1 (place + 1) (take place names) name (omega arith))
    ∙ map-append (λ (numbered : ℕ × List ℕ). decimal numbered.0 ∷ numbered.1 ∷ []) (enumerate_from 1 (take place names)) ((place + 1, name) ∷ [])
