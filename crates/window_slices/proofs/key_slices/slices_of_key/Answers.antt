use Rattle.std.proofs.Common.{◌∙◌, ap}
use Rattle.std.specs.Int.{w64}
use Rattle.std.proofs.lemmas.Int.{to_z-of_z}
use Rattle.window_slices.specs.KeySlices.{slices_in, slices_of}
use Rattle.window_slices.proofs.key_slices.slices_of_key.Goals as goal

pub returns-in-Some : goal.returns-in-Some
returns-in-Some c =
    c.as_slice.ensures.value ∙ ap slices_in c.in-Some.ensures.value ∙ ap (slices_of c.args.slices.now.entries) (to_z-of_z w64 c.args.key c.ranges.key)

pub returns-in-None : goal.returns-in-None
returns-in-None c = ap slices_in c.in-None.ensures.value ∙ ap (slices_of c.args.slices.now.entries) (to_z-of_z w64 c.args.key c.ranges.key)
