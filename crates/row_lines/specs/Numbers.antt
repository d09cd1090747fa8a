-- Numbers, as they are printed.
use Rattle.std.specs.Prelude.{◌≡◌, ◌≢◌, ℕ, ℤ, pos, ◌≤ℤ◌, ◌^◌, ◌<◌, ◌≤◌, List, ◌∷◌, ◌++◌, map, length, Option, Some, None, FitsSigned}
use Rattle.std.specs.Int.{w64, w128}
use Rattle.std.specs.List.{All, flat_map, join_with_byte}
use Rattle.std.specs.Fmt.{signed_decimal}
use Rattle.std.specs.Str.Parse.{AllDigits, digits_value}
use Rattle.row_lines.specs.Text.{spaced}
use Rattle.arrayvec.specs.ArrayVec.{ArrayVec}
use Rattle.plan_model.specs.declared.limits.TheConstants.{MOST_AGGREGATES}
use Rattle.row_lines.specs.declared.row.TheConstants.{MOST_NUMBERS}

-- digits write a number that fits 64 bits with a sign
abbrev pub IsSizeOf : List ℕ → ℕ → Type 0
IsSizeOf digits size = AllDigits 10 digits × (size ≡ digits_value 10 digits) × (size < 2 ^ 63)

-- a number of 64 bits is printed in front of a text, and this is what stands behind it
abbrev pub IsNumberFront : List ℕ → ℤ → List ℕ → Type 0
IsNumberFront text z rest = FitsSigned w64 z × (text ≡ signed_decimal z ++ rest)

-- the same, and the number has no sign
abbrev pub IsSizeFront : List ℕ → ℤ → List ℕ → Type 0
IsSizeFront text z rest = (pos 0 ≤ℤ z) × IsNumberFront text z rest

-- the text is how this number of 128 bits is printed, or that of no such number
abbrev pub GivesNumber : List ℕ → Option ℤ → Type 0
GivesNumber text (Some z) = FitsSigned w128 z × (text ≡ signed_decimal z)
GivesNumber text None = (z : ℤ) → FitsSigned w128 z → text ≢ signed_decimal z

-- numbers with single spaces between
abbrev pub text_of_numbers : List ℤ → List ℕ
text_of_numbers numbers = join_with_byte 32 (map signed_decimal numbers)

-- numbers of 128 bits that a row can have
pub record AreNumbers (numbers : List ℤ) : Type 0 where
  pub some : 0 < length numbers
  pub few : length numbers ≤ MOST_NUMBERS
  pub fit : All (FitsSigned w128) numbers

-- the numbers that the text is of, or that it is of none such
abbrev pub GivesNumbers : List ℕ → Option (ArrayVec ℤ) → Type 0
GivesNumbers text (Some numbers) = AreNumbers numbers.items × (text ≡ text_of_numbers numbers.items)
GivesNumbers text None = (numbers : List ℤ) → AreNumbers numbers → text ≢ text_of_numbers numbers

-- so many numbers of 64 bits as a row can have, each behind a space, stand in front of a line feed, and this behind it
pub record AreSpaced (text : List ℕ) (count : ℕ) (rest : List ℕ) : Type 0 where
  pub numbers : List ℤ
  pub count_is : length numbers ≡ count
  pub few : count ≤ MOST_AGGREGATES
  pub fit : All (FitsSigned w64) numbers
  pub is : text ≡ flat_map spaced numbers ++ 10 ∷ rest

-- a text is a start and an end of 64 bits, each with a space behind it, and then the rest
pub record HasFront (text : List ℕ) (start end : ℤ) (rest : List ℕ) : Type 0 where
  pub start_fits : FitsSigned w64 start
  pub end_fits : FitsSigned w64 end
  pub is : text ≡ signed_decimal start ++ spaced end ++ 32 ∷ rest
