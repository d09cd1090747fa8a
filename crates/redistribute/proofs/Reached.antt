-- A fact of what a function has of each element of a list, and of the elements of another.
use Rattle.std.proofs.Common.{List, [], ◌∷◌, map}
use Rattle.std.specs.List.{AllZip}

pub mapped : {A B C : Type 0} (f : A → C) (R : C → B → Type 0) (xs : List A) (ys : List B) → AllZip (λ x. R (f x)) xs ys → AllZip R (map f xs) ys
mapped f R [] [] h = tt
mapped f R [] (y ∷ ys) h = absurd h
mapped f R (x ∷ xs) [] h = absurd h
mapped f R (x ∷ xs) (y ∷ ys) h = (h.0, mapped f R xs ys h.1)

pub unmapped : {A B C : Type 0} (f : A → C) (R : C → B → Type 0) (xs : List A) (ys : List B) → AllZip R (map f xs) ys → AllZip (λ x. R (f x)) xs ys
unmapped f R [] [] h = tt
unmapped f R [] (y ∷ ys) h = absurd h
unmapped f R (x ∷ xs) [] h = absurd h
unmapped f R (x ∷ xs) (y ∷ ys) h = (h.0, unmapped f R xs ys h.1)
