use Rattle.std.proofs.Common.{◌≡◌, ℕ, false, eqb, ◌*◌, ◌<◌, get_or}
use Rattle.lane_kernels.proofs.equal.equal_into.Given as goal

abbrev pub invariant-loop-lanes : goal.invariant-loop-lanes
invariant-loop-lanes l = record {
  far : l.at ≡ 16 * l.lanes-index;
  below : (k : ℕ) → k < l.at → get_or l.mask k false ≡ eqb (get_or l.targets k 0) l.t;
}

abbrev pub invariant-loop-i : goal.invariant-loop-i
invariant-loop-i l = (k : ℕ) → k < l.i → get_or l.mask k false ≡ eqb (get_or l.targets k 0) l.t
