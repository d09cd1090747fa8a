use Rattle.std.proofs.Common.{refl, length, pos, replicate, arith}
use Rattle.std.proofs.lemmas.List.{length-take}
use Rattle.aggregates.specs.declared.kind.Kind.TheVariants.{Count}
use Rattle.aggregates.proofs.Accs.{length-numbers, is_inside, is_padded}
use Rattle.aggregates.proofs.acc.Acc.of.Goals as goal

pub copy_from_slice-requires-2 : goal.copy_from_slice-requires-2
copy_from_slice-requires-2 c =
    let same = length-numbers c.args.count c.args.kinds.now c.args.numbers.now c.requires.numbers in
    omega (arith, length-take (length c.args.kinds.now) (replicate 8 (pos 0)))

pub invariant_of-result : goal.invariant_of-result
invariant_of-result c =
    let same = length-numbers c.args.count c.args.kinds.now c.args.numbers.now c.requires.numbers in
    is_inside c.args.count (length c.args.kinds.now) c.args.kinds.now _ c.args.numbers.now _
    (rw c.copy_from_slice.ensures.after (is_padded Count c.args.kinds.now (length c.args.kinds.now) refl))
    (rw c.copy_from_slice-2.ensures.after (is_padded (pos 0) c.args.numbers.now (length c.args.kinds.now) same))
    refl same c.requires.few c.requires
