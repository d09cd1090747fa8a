use Rattle.lane_kernels.proofs.Mixes.{scramble_is}
use Rattle.lane_kernels.proofs.mix.scramble_lanes.Goals as goal

pub returns : goal.returns
returns c = scramble_is 8 _ c.requires
