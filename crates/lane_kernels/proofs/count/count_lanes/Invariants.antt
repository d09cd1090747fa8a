use Rattle.std.proofs.Common.{◌≡◌, ℕ, cond, false, ◌<◌, get_or, length}
use Rattle.lane_kernels.proofs.count.count_lanes.Given as goal

abbrev pub invariant-loop-j : goal.invariant-loop-j
invariant-loop-j l = record {
  long : length l.bytes ≡ 32;
  each : (k : ℕ) → k < l.j → get_or l.bytes k 0 ≡ cond (get_or l.lanes k false) 1 0;
}
