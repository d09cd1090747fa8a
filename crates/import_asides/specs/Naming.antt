-- The table of names as records.
use Rattle.std.specs.Prelude.{◌∷◌, [], ℕ, List, decimal, map}
use Rattle.std.specs.List.{enumerate_from}

-- a record of each name: its number, counted from 1, and it
abbrev pub name_records : List (List ℕ) → List (List (List ℕ))
name_records names = map (λ numbered. decimal numbered.0 ∷ numbered.1 ∷ []) (enumerate_from 1 names)
