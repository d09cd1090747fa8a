use Rattle.std.proofs.Common.{◌∙◌, ap}
use Rattle.std.specs.Int.{w64, w128}
use Rattle.std.proofs.lemmas.Int.{to_z-of_z}
use Rattle.window_slices.specs.KeySlices.{slices_of}
use Rattle.window_slices.specs.Spans.{keyed_in, keyed_at}
use Rattle.window_slices.proofs.spans.slices_in.Goals as goal

pub returns-in-Some : goal.returns-in-Some
returns-in-Some c =
    let key = c.args.key in
    c.slices_of_key.ensures
    ∙ ap (slices_of c.in-Some.slices.now.entries) (to_z-of_z w64 key c.ranges.key)
    ∙ ap (λ o. slices_of (keyed_in o) key) c.in-Some.ensures.value
    ∙ ap (λ b. slices_of (keyed_at c.args.spans.now.entries b) key) (to_z-of_z w128 c.args.span c.ranges.span)

pub returns-in-None : goal.returns-in-None
returns-in-None c =
    let key = c.args.key in
    ap (λ o. slices_of (keyed_in o) key) c.in-None.ensures.value
    ∙ ap (λ b. slices_of (keyed_at c.args.spans.now.entries b) key) (to_z-of_z w128 c.args.span c.ranges.span)
