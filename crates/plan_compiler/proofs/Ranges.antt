-- Lists of what a function has at 0, 1, and so on.
use Rattle.std.proofs.Common.{◌≡◌, ℕ, ◌+◌, ◌<◌, List, [], ◌∷◌, ◌++◌, map, length, get_or, sym, ap, ◌∙◌, arith}
use Rattle.std.proofs.lemmas.List.FromFn.{length-map-range_with_len, map-range_with_len_more, get_or-map-range_with_len}
use Rattle.std.specs.List.{range_with_len}

-- one more
pub map_more : {X : Type 0} (f : ℕ → X) (n : ℕ) (xs ys : List X) (x : X) → ys ≡ xs ++ x ∷ [] → xs ≡ map f (range_with_len 0 n) → x ≡ f n → ys ≡ map f (range_with_len 0 (n + 1))
map_more f n xs ys x e g h = e ∙ ap (λ zs. zs ++ x ∷ []) g ∙ ap (λ y. map f (range_with_len 0 n) ++ y ∷ []) h ∙ sym (map-range_with_len_more f 0 n n (omega arith))

-- what stands at a place
pub has_place : {X : Type 0} (f : ℕ → X) (n t : ℕ) (xs : List X) → xs ≡ map f (range_with_len 0 n) → t < n → t < length xs
has_place f n t xs e l = let z : length xs ≡ n = ap length e ∙ length-map-range_with_len f 0 n in omega (arith, l, z)

pub at_place : {X : Type 0} (f : ℕ → X) (n t : ℕ) (d : X) (xs : List X) → xs ≡ map f (range_with_len 0 n) → t < n → get_or xs t d ≡ f t
at_place f n t d xs e l = ap (λ ys. get_or ys t d) e ∙ get_or-map-range_with_len f 0 n t t d l (omega arith)
