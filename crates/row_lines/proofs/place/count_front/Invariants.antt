use Rattle.std.proofs.Common.{◌≡◌, ◌++◌, ℤ, List, length, FitsSigned}
use mir.Syntax.{w64}
use Rattle.std.specs.List.{All, flat_map}
use Rattle.row_lines.specs.Text.{spaced}
use Rattle.row_lines.proofs.place.count_front.Given as goal

abbrev pub invariant-loop-count : goal.invariant-loop-count
invariant-loop-count l = (numbers : List ℤ) × (length numbers ≡ l.count) × All (FitsSigned w64) numbers × (l.text ≡ flat_map spaced numbers ++ l.rest)
