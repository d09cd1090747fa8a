use Rattle.std.proofs.Common.{◌≡◌, take}
use Rattle.row_lines.proofs.row.values_of.Given as goal

abbrev pub invariant-loop-number : goal.invariant-loop-number
invariant-loop-number l = l.values ≡ take l.number-index l.numbers
