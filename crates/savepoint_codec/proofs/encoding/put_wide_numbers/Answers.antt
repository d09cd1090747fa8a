use Rattle.std.proofs.Common.{SFits, get_or, pos, rules}
use Rattle.std.specs.Int.{w128}
use Rattle.std.proofs.lemmas.Int.{to_z-of_z}
use Rattle.byte_fields.specs.Fields.{i128_field}
use Rattle.savepoint_codec.proofs.Spelled.{spelled_more}
use Rattle.savepoint_codec.proofs.encoding.put_wide_numbers.Goals as goal

pub loop-number-preserved : goal.loop-number-preserved
loop-number-preserved c =
    let fits : SFits w128 (get_or c.args.numbers.now c.loop-number.number-index (pos 0)) = search rules in
    spelled_more i128_field.spell c.args.numbers.now c.loop-number.number-index _ _ _ _ _ c.loop-number-test.true (to_z-of_z _ _ fits) c.loop-number.invariant c.in_ok-put_i128.ensures
