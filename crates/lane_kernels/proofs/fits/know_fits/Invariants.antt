use Rattle.std.proofs.Common.{ℕ, pos, ◌<◌, get_or, w64}
use mir.Val.{SFits}
use Rattle.lane_kernels.proofs.fits.know_fits.Given as goal

abbrev pub invariant-loop-x : goal.invariant-loop-x
invariant-loop-x l = (k : ℕ) → k < l.x-index → SFits w64 (get_or l.col k (pos 0))
