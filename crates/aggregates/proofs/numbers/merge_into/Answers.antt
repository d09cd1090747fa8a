use Rattle.std.proofs.Common.{◌≡◌, ◌∙◌, ◌<◌, pos, rules, arith, FitsSigned, get_or, length, to_z, of_z}
use Rattle.std.specs.Int.{w128}
use Rattle.std.proofs.lemmas.Int.{to_z-of_z}
use Rattle.aggregates.specs.declared.kind.Kind.TheVariants.{Count}
use Rattle.aggregates.specs.Kinds.{merge_by}
use Rattle.aggregates.proofs.Fronts.{writes_merged, small_next, fits_small}
use Rattle.aggregates.proofs.numbers.merge_into.Goals as goal

pub merged-requires-clause-a_small : goal.merged-requires-clause-a_small
merged-requires-clause-a_small c =
    let i_in : c.loop-i.i < length c.args.kinds.now = omega arith in
    let small = small_next c.args.kinds.now c.args.numbers.now c.args.others.now c.loop-i.numbers c.loop-i.i (pos 0) i_in c.requires.room c.requires.others_there c.loop-i.invariant c.requires.small in
    rw (to_z-of_z w128 (get_or c.loop-i.numbers c.loop-i.i (pos 0)) (fits_small _ small)) small

pub merged-requires-clause-b_small : goal.merged-requires-clause-b_small
merged-requires-clause-b_small c =
    let small = c.requires.others_small c.loop-i.i (pos 0) (omega arith) in
    rw (to_z-of_z w128 (get_or c.args.others.now c.loop-i.i (pos 0)) (fits_small _ small)) small

pub loop-i-preserved : goal.loop-i-preserved
loop-i-preserved c =
    let fits : FitsSigned w128 c.merged.result = search rules in
    let back : to_z w128 (of_z w128 c.merged.result) ≡ c.merged.result = to_z-of_z w128 c.merged.result fits in
    let i_in : c.loop-i.i < length c.args.kinds.now = omega arith in
    let small = small_next c.args.kinds.now c.args.numbers.now c.args.others.now c.loop-i.numbers c.loop-i.i (pos 0) i_in c.requires.room c.requires.others_there c.loop-i.invariant c.requires.small in
    let others_small = c.requires.others_small c.loop-i.i (pos 0) (omega arith) in
    let a = to_z-of_z w128 (get_or c.loop-i.numbers c.loop-i.i (pos 0)) (fits_small _ small) in
    let b = to_z-of_z w128 (get_or c.args.others.now c.loop-i.i (pos 0)) (fits_small _ others_small) in
    writes_merged c.args.kinds.now c.args.numbers.now c.args.others.now c.loop-i.numbers c.loop-i.i Count (pos 0) (pos 0) _
    i_in c.requires.room c.requires.others_there c.loop-i.invariant
    (back ∙ c.merged.ensures ∙ (λ t. merge_by (get_or c.args.kinds.now c.loop-i.i Count) (a t) (b t)))
