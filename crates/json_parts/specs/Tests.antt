-- Tests of the numbers of a text.
use Rattle.std.specs.Prelude.{ℤ, pos, int_le, int_lt, Bool, ◌&&◌}

abbrev pub is_within : ℤ → ℤ → ℤ → Bool
is_within low high z = int_le low z && int_le z high

-- 0 to bound - 1
abbrev pub is_place : ℤ → ℤ → Bool
is_place bound z = int_le (pos 0) z && int_lt z bound
