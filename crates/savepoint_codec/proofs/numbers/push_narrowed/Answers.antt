use Rattle.std.proofs.Common.{FitsSigned, get_or, pos, arith, rules}
use Rattle.std.specs.Int.{w64, w128}
use Rattle.std.proofs.lemmas.Grind.{common_steps}
use Rattle.std.proofs.lemmas.Int.{ints, to_z-of_z}
use Rattle.std.proofs.lemmas.List.Sums.{AllPass-from_list_all}
use Rattle.byte_fields.specs.Fields.{is_i64}
use Rattle.byte_fields.proofs.Exact.{fits_long}
use Rattle.savepoint_codec.proofs.numbers.push_narrowed.Goals as goal

pub overflow_cast-number : goal.overflow_cast-number
overflow_cast-number c =
    let number = get_or c.args.more.now c.loop-number.number-index (pos 0) in
    let wide : FitsSigned w128 number = search rules in
    let narrow : FitsSigned w64 number = fits_long number (AllPass-from_list_all is_i64 c.args.more.now c.requires c.loop-number.number-index (pos 0) c.loop-number-test.true) in
    rw (to_z-of_z w128 number wide) narrow

pub loop-number-preserved : goal.loop-number-preserved
loop-number-preserved c =
    let number = get_or c.args.more.now c.loop-number.number-index (pos 0) in
    let wide : FitsSigned w128 number = search rules in
    let narrow : FitsSigned w64 number = fits_long number (AllPass-from_list_all is_i64 c.args.more.now c.requires c.loop-number.number-index (pos 0) c.loop-number-test.true) in
    grind (arith, common_steps, ints, to_z-of_z w128 number wide, to_z-of_z w64 number narrow)
