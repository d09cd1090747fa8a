-- Numbers dealt out in rows, and the numbers that pass a test.
use Rattle.std.specs.Prelude.{ℕ, zero, suc, ◌+◌, List, [], ◌∷◌, ◌++◌, Bool, nat_le, if◌then◌else◌}

-- the first number of row a, where row k has f k numbers
abbrev pub sum_below : (ℕ → ℕ) → ℕ → ℕ
sum_below f zero = 0
sum_below f (suc a) = sum_below f a + f a

-- the row of number t: the last of n rows that begins at t or before
abbrev pub row_of : (ℕ → ℕ) → ℕ → ℕ → ℕ
row_of f zero t = 0
row_of f (suc n) t = if nat_le (sum_below f n) t then n else row_of f n t

-- the numbers below n that pass, ascending
abbrev pub filter_below : (ℕ → Bool) → ℕ → List ℕ
filter_below test zero = []
filter_below test (suc n) = filter_below test n ++ (if test n then n ∷ [] else [])

-- how many numbers below n pass
abbrev pub count_below : (ℕ → Bool) → ℕ → ℕ
count_below test zero = 0
count_below test (suc n) = count_below test n + (if test n then 1 else 0)
