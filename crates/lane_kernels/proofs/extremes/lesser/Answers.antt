use Rattle.std.proofs.Common.{sym, ◌∙◌}
use Rattle.lane_kernels.proofs.Lanes.{lesser_lanes}
use Rattle.lane_kernels.proofs.extremes.lesser.Goals as goal

pub returns : goal.returns
returns c = lesser_lanes c.args.a.now c.args.b.now (c.told-a ∙ sym c.told-b) c.requires.a_fits c.requires.b_fits
