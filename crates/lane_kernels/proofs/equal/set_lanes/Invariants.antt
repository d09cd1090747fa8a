use Rattle.std.proofs.Common.{◌≡◌, ℕ, false, not, eqb, ◌+◌, ◌<◌, get_or}
use Rattle.lane_kernels.proofs.equal.set_lanes.Given as goal

abbrev pub invariant-loop-j : goal.invariant-loop-j
invariant-loop-j l = record {
  before : (k : ℕ) → k < l.at → get_or l.mask k false ≡ get_or l.initial.mask k false;
  here : (k : ℕ) → k < l.j → get_or l.mask (l.at + k) false ≡ not (eqb (get_or l.hits k 0) 0);
}
