-- Lists that are written over, and what a mask of answers keeps.
use Rattle.std.proofs.Common.{◌≡◌, ℕ, Bool, true, false, cond, List, [], ◌∷◌, ◌++◌, map, take, drop, length, refl, ap, ◌∙◌, arith}
use Rattle.std.proofs.lemmas.List.{take_all, append-nil}
use Rattle.std.proofs.Math.ListN.{drop_of_length-le}
use Rattle.std.specs.List.{filter}
use Rattle.columns.specs.Parts.{kept}

-- a vector that a function over a slice has written over its whole length
pub written_whole : {X : Type 0} (new old : List X) (n : ℕ) → n ≡ length old → length new ≡ length old → take n (new ++ drop (length new) old) ≡ new
written_whole new old n is same =
    let none : drop (length new) old ≡ [] = drop_of_length-le old (omega arith) in
    ap (λ l. take n (new ++ l)) none ∙ ap (take n) (append-nil new) ∙ take_all n new (omega arith)

-- a mask of a test's answers keeps what the test passes
pub kept-map_test : {X : Type 0} (test : X → Bool) (xs : List X) → kept (map test xs) xs ≡ filter test xs
kept-map_test test [] = refl
kept-map_test test (x ∷ xs) = one_more x xs (test x) (map test xs) (filter test xs) (kept-map_test test xs)
  where
    one_more : {X : Type 0} (x : X) (xs : List X) (b : Bool) (bs : List Bool) (ys : List X) → kept bs xs ≡ ys → kept (b ∷ bs) (x ∷ xs) ≡ cond b (x ∷ ys) ys
    one_more x xs true bs ys e = ap (λ t. x ∷ t) e
    one_more x xs false bs ys e = e
