use Rattle.std.proofs.Common.{ℤ, SFits, get_or, pos, ◌∙◌, ap, to_z, of_z, rules}
use Rattle.std.specs.Int.{w64, w128}
use Rattle.std.proofs.lemmas.Int.{to_z-of_z}
use Rattle.byte_fields.specs.Fields.{i128_field}
use Rattle.savepoint_codec.proofs.Spelled.{spelled_more}
use Rattle.savepoint_codec.proofs.encoding.put_narrow_numbers.Goals as goal

pub loop-number-preserved : goal.loop-number-preserved
loop-number-preserved c =
    let number = get_or c.args.numbers.now c.loop-number.number-index (pos 0) in
    let narrow : SFits w64 number = search rules in
    let wide : SFits w128 number = search rules in
    let kept = ap (λ (z : ℤ). to_z w128 (of_z w128 z)) (to_z-of_z w64 number narrow) ∙ to_z-of_z w128 number wide in
    spelled_more i128_field.spell c.args.numbers.now c.loop-number.number-index _ _ _ _ _ c.loop-number-test.true kept c.loop-number.invariant c.in_ok-put_i128.ensures
