use Rattle.std.proofs.Common.{◌≡◌, ◌++◌, map, take, drop}
use Rattle.aggregates.specs.Kinds.{kind_of}
use Rattle.aggregates.proofs.numbers.write_kinds.Given as goal

abbrev pub invariant-loop-i : goal.invariant-loop-i
invariant-loop-i l = l.kinds ≡ map kind_of (take l.i l.aggregates) ++ drop l.i l.fn.kinds
