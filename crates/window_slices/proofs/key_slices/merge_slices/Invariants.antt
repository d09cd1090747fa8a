use Rattle.window_slices.specs.KeySlices.{total_of}
use Rattle.window_slices.proofs.SliceTotals.{IsSoFar}
use Rattle.window_slices.proofs.key_slices.merge_slices.Given as goal

abbrev pub invariant-loop-slice : goal.invariant-loop-slice
invariant-loop-slice l = IsSoFar l.w l.start l.slices (total_of l.fn.total) l.slice-index l.total
