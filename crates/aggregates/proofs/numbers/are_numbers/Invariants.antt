use Rattle.std.proofs.Common.{◌≡◌, drop}
use Rattle.aggregates.specs.Kinds.{are_numbers}
use Rattle.aggregates.proofs.numbers.are_numbers.Given as goal

abbrev pub invariant-loop-i : goal.invariant-loop-i
invariant-loop-i l = are_numbers l.count (drop l.i l.kinds) (drop l.i l.numbers) ≡ are_numbers l.count l.kinds l.numbers
