use Rattle.std.proofs.Common.{◌≡◌, ℕ, pos, false, ◌&&◌, ◌*◌, ◌<◌, ◌≤◌, get_or}
use Rattle.lane_kernels.specs.Compare.{holds}
use Rattle.lane_kernels.proofs.compare.and_compare.Given as goal

abbrev pub invariant-loop-lanes : goal.invariant-loop-lanes
invariant-loop-lanes l = record {
  far : l.at ≡ 16 * l.lanes-index;
  below : (k : ℕ) → k < l.at → get_or l.mask k false ≡ (get_or l.fn.mask k false && holds l.cmp (get_or l.col k (pos 0)) l.fn.c);
  above : (k : ℕ) → l.at ≤ k → get_or l.mask k false ≡ get_or l.fn.mask k false;
}

abbrev pub invariant-loop-i : goal.invariant-loop-i
invariant-loop-i l = record {
  below : (k : ℕ) → k < l.i → get_or l.mask k false ≡ (get_or l.fn.mask k false && holds l.cmp (get_or l.col k (pos 0)) l.fn.c);
  above : (k : ℕ) → l.i ≤ k → get_or l.mask k false ≡ get_or l.fn.mask k false;
}
