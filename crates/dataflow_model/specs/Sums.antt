-- Sums over the numbers below n.
use Rattle.std.specs.Prelude.{ℕ, zero, suc, ◌+◌}

-- f 0 + f 1 + .. + f (n - 1)
abbrev pub total : ℕ → (ℕ → ℕ) → ℕ
total zero f = 0
total (suc n) f = f n + total n f
