-- What stands for the point of a decimal.
use Rattle.std.specs.Prelude.{ℕ, ◌==◌, List, map, codes, bytes_eq, Option, Some, None, if◌then◌else◌}
use Rattle.decimal_texts.specs.declared.point.DecimalPoint.{DecimalPoint}
use Rattle.decimal_texts.specs.declared.point.DecimalPoint.TheVariants.{Point, Comma}

-- what a word says
abbrev pub point_said : List ℕ → Option DecimalPoint
point_said word = if bytes_eq word (codes ".") then Some Point else if bytes_eq word (codes ",") then Some Comma else None

abbrev pub byte_of : DecimalPoint → ℕ
byte_of Point = 46
byte_of Comma = 44

-- a comma for a point, and a point for a comma
abbrev pub swapped : ℕ → ℕ
swapped b = if b == 44 then 46 else if b == 46 then 44 else b

-- a text in which a comma is the point, as one that has a point
abbrev pub pointed : DecimalPoint → List ℕ → List ℕ
pointed Point text = text
pointed Comma text = map swapped text
