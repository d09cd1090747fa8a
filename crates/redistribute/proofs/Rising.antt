-- Cuts of which each is no earlier than the one before.
use Rattle.std.proofs.Common.{ℕ, zero, suc, ◌<◌, ◌≤◌, List, [], ◌∷◌, length, get_or, arith}
use Rattle.std.specs.List.{AllByRecursion, AllZip}
use Rattle.stream_model.specs.Watermarks.{IsBefore}
use Rattle.redistribute.specs.Stopping.{Rises}

-- what all have, the one at a place has
pub all_at : {X : Type 0} (P : X → Type 0) (xs : List X) (n : ℕ) (d : X) → AllByRecursion P xs → n < length xs → P (get_or xs n d)
all_at P [] n d all l = absurd (omega (arith, l))
all_at P (x ∷ xs) zero d all l = all.0
all_at P (x ∷ xs) (suc n) d all l = all_at P xs n d all.1 (omega (arith, l))

-- of three cuts that rise the first is no later than the last
before_both : (a b c : List ℕ) → AllZip (λ m n. m ≤ n) a b → AllZip (λ m n. m ≤ n) b c → AllZip (λ m n. m ≤ n) a c
before_both [] [] [] x y = tt
before_both [] [] (n ∷ ns) x y = absurd y
before_both [] (m ∷ ms) c x y = absurd x
before_both (k ∷ ks) [] c x y = absurd x
before_both (k ∷ ks) (m ∷ ms) [] x y = absurd y
before_both (k ∷ ks) (m ∷ ms) (n ∷ ns) x y = (let one = x.0 in let two = y.0 in omega (arith, one, two), before_both ks ms ns x.1 y.1)

earlier_both : (a b c : List (List ℕ)) → IsBefore a b → IsBefore b c → IsBefore a c
earlier_both [] [] [] x y = tt
earlier_both [] [] (n ∷ ns) x y = absurd y
earlier_both [] (m ∷ ms) c x y = absurd x
earlier_both (k ∷ ks) [] c x y = absurd x
earlier_both (k ∷ ks) (m ∷ ms) [] x y = absurd y
earlier_both (k ∷ ks) (m ∷ ms) (n ∷ ns) x y = (before_both k m n x.0 y.0, earlier_both ks ms ns x.1 y.1)

-- each of cuts that rise from one is no earlier
pub rises_to : (begin : List (List ℕ)) (cuts : List (List (List ℕ))) (m : ℕ) → Rises begin cuts → m < length cuts → IsBefore begin (get_or cuts m [])
rises_to begin [] m rises l = absurd (omega (arith, l))
rises_to begin (c ∷ cs) zero rises l = rises.0
rises_to begin (c ∷ cs) (suc m) rises l = earlier_both begin c (get_or cs m []) rises.0 (rises_to c cs m rises.1 (omega (arith, l)))
