use Rattle.std.proofs.Common.{sym, ◌∙◌}
use Rattle.lane_kernels.proofs.GreaterLanes.{greater_lanes}
use Rattle.lane_kernels.proofs.extremes.greater.Goals as goal

pub returns : goal.returns
returns c = greater_lanes c.args.a.now c.args.b.now (c.told-a ∙ sym c.told-b) c.requires.a_fits c.requires.b_fits
