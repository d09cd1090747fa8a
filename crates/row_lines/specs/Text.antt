-- The text of rows.
use Rattle.std.specs.Prelude.{ℕ, ℤ, List, [], ◌∷◌, ◌++◌}
use Rattle.std.specs.List.{flat_map}
use Rattle.std.specs.Fmt.{signed_decimal}
use Rattle.plan_model.specs.declared.spec.Row.{Row}

-- a space, and the number in decimal
abbrev pub spaced : ℤ → List ℕ
spaced z = 32 ∷ signed_decimal z

-- a row's start, end and key, with single spaces
abbrev pub head_of : Row → List ℕ
head_of row = signed_decimal row.start ++ spaced row.end ++ spaced row.key

-- the same, and its numbers
abbrev pub text_of_row : Row → List ℕ
text_of_row row = head_of row ++ flat_map spaced row.values

-- the same, ended by a line feed
abbrev pub line_of : Row → List ℕ
line_of row = text_of_row row ++ 10 ∷ []

-- a line for each row
abbrev pub text_of_rows : List Row → List ℕ
text_of_rows rows = flat_map line_of rows
