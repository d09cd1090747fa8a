use Rattle.std.proofs.Common.{◌≡◌, map, take}
use Rattle.input_cuts.specs.Extents.{extent_of}
use Rattle.input_cuts.proofs.extent.extents_of.Given as goal

abbrev pub invariant-loop-source : goal.invariant-loop-source
invariant-loop-source l = l.extents.items ≡ map (map (extent_of l.time)) (take l.source-index l.sources)
