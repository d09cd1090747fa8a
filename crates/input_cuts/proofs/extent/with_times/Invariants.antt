use Rattle.std.proofs.Common.{◌≡◌, take}
use Rattle.std.specs.List.{fold}
use Rattle.input_cuts.specs.Extents.{with_time}
use Rattle.input_cuts.proofs.extent.with_times.Given as goal

abbrev pub invariant-loop-time : goal.invariant-loop-time
invariant-loop-time l = l.found ≡ fold with_time l.fn.times (take l.time-index l.more)
