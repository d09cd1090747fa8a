use Rattle.std.proofs.Common.{◌≡◌, ◌*◌, take, map}
use Rattle.lane_kernels.specs.Mix.{murmur_hash}
use Rattle.lane_kernels.proofs.mix.mix_into.Given as goal

abbrev pub invariant-loop-lanes : goal.invariant-loop-lanes
invariant-loop-lanes l = record { far : l.at ≡ 8 * l.lanes-index; done : take l.at l.out ≡ map murmur_hash (take l.at l.codes) }

abbrev pub invariant-loop-i : goal.invariant-loop-i
invariant-loop-i l = take l.i l.out ≡ map murmur_hash (take l.i l.codes)
