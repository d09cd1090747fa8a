use Rattle.lane_kernels.proofs.Mixes.{finish_is}
use Rattle.lane_kernels.proofs.mix.finish_lanes.Goals as goal

pub returns : goal.returns
returns c = finish_is 8 _ c.requires
