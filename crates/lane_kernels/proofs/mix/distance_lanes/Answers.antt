use Rattle.lane_kernels.proofs.Mixes.{distance_is}
use Rattle.lane_kernels.proofs.mix.distance_lanes.Goals as goal

pub returns : goal.returns
returns c = distance_is 8 _ c.requires
