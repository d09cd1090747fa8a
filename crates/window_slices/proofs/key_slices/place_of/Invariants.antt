use Rattle.std.proofs.Common.{◌≡◌, false, ◌≤◌, length, drop}
use Rattle.window_slices.specs.KeySlices.{has_start}
use Rattle.window_slices.proofs.key_slices.place_of.Given as goal

-- none of those behind starts there
abbrev pub invariant-loop-place : goal.invariant-loop-place
invariant-loop-place l = (l.place ≤ length l.slices) × (has_start l.start (drop l.place l.slices) ≡ false)

abbrev pub decreases-loop-place : goal.decreases-loop-place
decreases-loop-place l = l.place
