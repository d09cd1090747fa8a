use Rattle.lane_kernels.proofs.Mixes.{equal_is}
use Rattle.lane_kernels.proofs.equal.equal_lanes.Goals as goal

pub returns : goal.returns
returns c = equal_is c.args.t 16 c.args.lanes.now c.told-lanes
