use Rattle.std.proofs.Common.{arith, w64}
use Rattle.std.proofs.lemmas.Int.{ints, to_z-of_z}
use Rattle.import_entries.specs.Ends.{last_end}
use Rattle.import_entries.proofs.rounding.last_end.Goals as goal

pub returns : goal.returns
unfolding last_end
returns c =
    let value = rw (to_z-of_z w64 c.args.mark c.ranges.mark) at c.ahead.ensures.value in
    omega (arith, ints, value)
