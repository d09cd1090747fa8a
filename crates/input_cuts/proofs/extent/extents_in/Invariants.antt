use Rattle.std.proofs.Common.{◌≡◌, map, take}
use Rattle.input_cuts.specs.Extents.{extent_of}
use Rattle.input_cuts.proofs.extent.extents_in.Given as goal

abbrev pub invariant-loop-entries : goal.invariant-loop-entries
invariant-loop-entries l = l.extents.items ≡ map (extent_of l.time) (take l.entries-index l.partitions)
