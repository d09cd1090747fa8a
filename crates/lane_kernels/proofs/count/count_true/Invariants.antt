use Rattle.std.proofs.Common.{◌≡◌, ◌*◌, take}
use Rattle.std.specs.List.{count_by}
use Rattle.lane_kernels.proofs.count.count_true.Given as goal

abbrev pub invariant-loop-lanes : goal.invariant-loop-lanes
invariant-loop-lanes l = record { far : l.at ≡ 32 * l.lanes-index; counted : l.total ≡ count_by (λ b. b) (take l.at l.mask) }

abbrev pub invariant-loop-i : goal.invariant-loop-i
invariant-loop-i l = l.total ≡ count_by (λ b. b) (take l.i l.mask)
