use Rattle.std.proofs.Common.{◌≡◌, ◌*◌, take, w64, length}
use mir.Val.{SFits}
use lib.Lanes.{Each1}
use Rattle.lane_kernels.specs.Extremes.{pick}
use Rattle.std.specs.List.{fold}
use Rattle.lane_kernels.proofs.extremes.extreme_of.Given as goal

abbrev pub invariant-loop-chunk : goal.invariant-loop-chunk
invariant-loop-chunk l = record {
  far : l.at ≡ 16 * l.chunk-index;
  long : length l.lanes ≡ 16;
  fits : Each1 (SFits w64) l.lanes;
  folded : fold (pick l.extreme) l.first l.lanes ≡ fold (pick l.extreme) l.first (take l.at l.col);
}

abbrev pub invariant-loop-j : goal.invariant-loop-j
invariant-loop-j l = l.found ≡ fold (pick l.extreme) l.first (take l.j l.lanes)

abbrev pub invariant-loop-i : goal.invariant-loop-i
invariant-loop-i l = l.found ≡ fold (pick l.extreme) l.first (take l.i l.col)
