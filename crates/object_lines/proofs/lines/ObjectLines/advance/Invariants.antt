use Rattle.std.proofs.Common.{◌≡◌, ℕ, List, Some}
use Rattle.object_lines.specs.Lines.{lines_left, next_line}
use Rattle.object_lines.proofs.lines.ObjectLines.advance.Given as goal

abbrev pub invariant-loop : goal.invariant-loop
invariant-loop g l = (left : List (List ℕ)) → lines_left g.R.Read.remaining l.fn.self ≡ Some left
    → (now : List (List ℕ)) × (lines_left g.R.Read.remaining l.self ≡ Some now) × (next_line left ≡ next_line now)
