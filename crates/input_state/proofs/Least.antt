-- The least of watermarks, where one of them moves.
use Rattle.std.proofs.Common.{◌≡◌, ◌<◌, ℕ, zero, suc, List, [], ◌∷◌, length, take, drop, get_or, slice_set, ap, ◌∙◌, arith, ◌≤ℤ◌, ◌<ℤ◌}
use Rattle.std.specs.Prelude.{ℤ, pos}
use Rattle.std.specs.Int.{int_min}
use Rattle.std.proofs.lemmas.Int.{ints}
use Rattle.plain_data.specs.Times.{highest}
use Rattle.input_state.specs.Inputs.{least, raised}

least_high : (xs : List ℤ) → least xs ≤ℤ highest
least_high [] = grind (arith, ints)
least_high (x ∷ xs) = let h = least_high xs in grind (arith, ints, h)

int_min_high : (z : ℤ) → z ≤ℤ highest → int_min highest z ≡ z
int_min_high z h = grind (arith, ints, h)

int_min_assoc : (a b c : ℤ) → int_min (int_min a b) c ≡ int_min a (int_min b c)
int_min_assoc a b c = grind (arith, ints)

-- input i at t: the least of those before it, of it, and of those after it
pub least_set : (xs : List ℤ) (i : ℕ) (t : ℤ) → i < length xs → int_min (least (take i xs)) (int_min t (least (drop (suc i) xs))) ≡ least (slice_set xs i t)
least_set [] i t l = absurd (omega (arith, l))
least_set (x ∷ xs) zero t l = int_min_high (int_min t (least xs)) (least_high (t ∷ xs))
least_set (x ∷ xs) (suc i) t l = int_min_assoc x (least (take i xs)) (int_min t (least (drop (suc i) xs))) ∙ ap (int_min x) (least_set xs i t (omega (arith, l)))

-- with what the input had before it moved, the least is the old one
least_back : (xs : List ℤ) (i : ℕ) (t : ℤ) → i < length xs → int_min (least (raised xs i t)) (get_or xs i (pos 0)) ≡ least xs
least_back [] i t l = absurd (omega (arith, l))
least_back (x ∷ xs) zero t l = grind (arith, ints)
least_back (x ∷ xs) (suc i) t l = int_min_assoc x (least (raised xs i t)) (get_or xs i (pos 0)) ∙ ap (int_min x) (least_back xs i t (omega (arith, l)))

-- an input above the least of all moves without it
pub least_above : (xs : List ℤ) (i : ℕ) (t : ℤ) → i < length xs → least xs <ℤ get_or xs i (pos 0) → least xs ≡ least (raised xs i t)
least_above xs i t l h = let back = least_back xs i t l in grind (arith, ints, h, back)

-- a watermark that is no higher changes nothing
pub raised_same : (xs : List ℤ) (i : ℕ) (t : ℤ) → i < length xs → t ≤ℤ get_or xs i (pos 0) → raised xs i t ≡ xs
raised_same [] i t l h = absurd (omega (arith, l))
raised_same (x ∷ xs) zero t l h = ap (λ z. z ∷ xs) (grind (arith, ints, h))
raised_same (x ∷ xs) (suc i) t l h = ap (λ zs. x ∷ zs) (raised_same xs i t (omega (arith, l)) h)
