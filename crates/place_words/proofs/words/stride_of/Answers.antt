use Rattle.std.proofs.Common.{◌≡◌, ◌≤◌, ◌+◌, ◌*◌, map, length, ap, arith}
use Rattle.std.proofs.lemmas.List.{length-map}
use Rattle.aggregates.specs.Kinds.{kind_of}
use Rattle.place_words.specs.Words.{width, width_of}
use Rattle.place_words.proofs.Numbers.{kinds_next, kinds_from, kind_at, width-few}
use Rattle.place_words.proofs.words.stride_of.Goals as goal

pub overflow_add-stride : goal.overflow_add-stride
overflow_add-stride c =
    let aggregates = c.args.aggregates.now in
    let i = c.loop-aggregate.aggregate-index in
    let next : width (kinds_from aggregates i) ≡ width_of (kind_at aggregates i) + width (kinds_from aggregates (i + 1)) = ap width (kinds_next aggregates i (omega arith)) in
    let few : width (map kind_of aggregates) ≤ 2 * length (map kind_of aggregates) = width-few (map kind_of aggregates) in
    omega (arith, length-map aggregates kind_of, next, few, c.loop-aggregate.invariant, c.width_of-stride.ensures)
