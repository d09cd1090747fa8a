-- How a cut is spelled.
use Rattle.std.specs.Prelude.{ℕ, ◌==◌, List, [], map, if◌then◌else◌}
use Rattle.std.specs.Fmt.{decimal}
use Rattle.std.specs.List.{join_with_byte}

-- what stands before the part at a place
abbrev pub before_part : List ℕ → ℕ → List ℕ
before_part separator place = if place == 0 then [] else separator

-- counts with commas between them
abbrev pub source_text : List ℕ → List ℕ
source_text counts = join_with_byte 44 (map decimal counts)

-- such sources with slashes between them
abbrev pub cut_text : List (List ℕ) → List ℕ
cut_text counts = join_with_byte 47 (map source_text counts)
