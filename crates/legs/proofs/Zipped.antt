-- Facts of two lists, place by place.
use Rattle.std.proofs.Common.{◌≡◌, ℕ, zero, suc, ◌<◌, List, [], ◌∷◌, length, get_or, arith}
use Rattle.std.specs.List.{AllZip}

pub all_zip : {A B : Type 0} (R : A → B → Type 0) (xs : List A) (ys : List B) → length xs ≡ length ys → ((k : ℕ) (d : A) (e : B) → k < length xs → R (get_or xs k d) (get_or ys k e)) → AllZip R xs ys
all_zip R [] [] l h = tt
all_zip R [] (y ∷ ys) l h = absurd (omega (arith, l))
all_zip R (x ∷ xs) [] l h = absurd (omega (arith, l))
all_zip R (x ∷ xs) (y ∷ ys) l h = (h 0 x y (omega arith), all_zip R xs ys (omega (arith, l)) (λ k d e m. h (suc k) d e (omega (arith, m))))

pub at_each : {A B : Type 0} (R : A → B → Type 0) (xs : List A) (ys : List B) (k : ℕ) (d : A) (e : B) → AllZip R xs ys → k < length xs → R (get_or xs k d) (get_or ys k e)
at_each R [] ys k d e h l = absurd (omega (arith, l))
at_each R (x ∷ xs) [] k d e h l = absurd h
at_each R (x ∷ xs) (y ∷ ys) zero d e h l = h.0
at_each R (x ∷ xs) (y ∷ ys) (suc k) d e h l = at_each R xs ys k d e h.1 (omega (arith, l))
