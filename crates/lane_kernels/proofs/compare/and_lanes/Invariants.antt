use Rattle.std.proofs.Common.{◌≡◌, ℕ, pos, false, not, ◌&&◌, ◌+◌, ◌<◌, ◌≤◌, get_or}
use Rattle.std.specs.Ordering.{int_eq}
use Rattle.lane_kernels.proofs.compare.and_lanes.Given as goal

abbrev pub invariant-loop-j : goal.invariant-loop-j
invariant-loop-j l = record {
  before : (k : ℕ) → k < l.at → get_or l.mask k false ≡ get_or l.initial.mask k false;
  here : (k : ℕ) → k < l.j → get_or l.mask (l.at + k) false ≡ (get_or l.initial.mask (l.at + k) false && not (int_eq (get_or l.hits k (pos 0)) (pos 0)));
  after : (k : ℕ) → l.at + l.j ≤ k → get_or l.mask k false ≡ get_or l.initial.mask k false;
}
