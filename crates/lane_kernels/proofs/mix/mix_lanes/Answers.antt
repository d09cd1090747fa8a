use Rattle.std.proofs.Common.{ap, ◌∙◌, map}
use Rattle.std.proofs.lemmas.Simd.{map-map}
use Rattle.lane_kernels.specs.Mix.{scrambled, finished, distance}
use Rattle.lane_kernels.proofs.mix.mix_lanes.Goals as goal

pub returns : goal.returns
returns c =
    c.distance_lanes.ensures
    ∙ ap (map distance) (c.finish_lanes.ensures ∙ ap (map finished) c.scramble_lanes.ensures ∙ map-map finished scrambled c.args.codes.now)
    ∙ map-map distance _ c.args.codes.now
