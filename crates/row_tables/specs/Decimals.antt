-- The texts of decimals.
use Rattle.std.specs.Prelude.{ℕ, zero, suc, ◌+◌, ◌/◌, ◌%◌, ◌^◌, ℤ, pos, negsuc, Bool, ◌||◌, ◌==◌, List, ◌∷◌, ◌++◌, drop}
use Rattle.std.specs.Char.{is_ascii_digit}
use Rattle.std.specs.Fmt.{decimal}

-- a part of a power of ten, with zeros before it: the power and the part have a 1 and these digits
abbrev pub part_digits : ℕ → ℕ → List ℕ
part_digits scale part = drop 1 (decimal (scale + part))

-- a number that is scaled by ten to the power of the places, without its sign
abbrev pub size_text : ℕ → ℕ → List ℕ
size_text zero size = decimal size
size_text (suc places) size = decimal (size / 10 ^ suc places) ++ 46 ∷ part_digits (10 ^ suc places) (size % 10 ^ suc places)

-- the same behind a hyphen where it is negative
abbrev pub decimal_text : ℕ → ℤ → List ℕ
decimal_text places (pos n) = size_text places n
decimal_text places (negsuc n) = 45 ∷ size_text places (suc n)

-- a digit, a point or a hyphen
abbrev pub is_decimal_byte : ℕ → Bool
is_decimal_byte b = is_ascii_digit b || (b == 46) || (b == 45)
