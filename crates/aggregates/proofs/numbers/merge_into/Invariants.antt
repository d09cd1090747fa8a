use Rattle.std.proofs.Common.{◌≡◌, ◌++◌, drop}
use Rattle.aggregates.proofs.Fronts.{merged_front}
use Rattle.aggregates.proofs.numbers.merge_into.Given as goal

abbrev pub invariant-loop-i : goal.invariant-loop-i
invariant-loop-i l = l.numbers ≡ merged_front l.kinds l.fn.numbers l.others l.i ++ drop l.i l.fn.numbers
