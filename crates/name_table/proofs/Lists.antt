-- The first place that passes a test.
use Rattle.std.proofs.Common.{◌≡◌, ◌+◌, Bool, true, false, cond, not, ◌||◌, List, [], ◌∷◌, length, refl, arith}
use Rattle.std.specs.List.{position_or_len, list_any}

-- where none passes, the first place that passes is the end
pub place_none : {A : Type 0} (test : A → Bool) (xs : List A) → list_any test xs ≡ false → position_or_len test xs ≡ length xs
place_none test [] h = refl
place_none test (x ∷ xs) h = by (test x) h (place_none test xs)
  where
    by : (b : Bool) → (b || list_any test xs) ≡ false → (list_any test xs ≡ false → position_or_len test xs ≡ length xs) → cond (not b) (1 + position_or_len test xs) 0 ≡ length (x ∷ xs)
    by true e rest = absurd cc
    by false e rest = let r : position_or_len test xs ≡ length xs = rest e in omega arith
