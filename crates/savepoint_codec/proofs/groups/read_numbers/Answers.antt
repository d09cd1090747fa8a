use Rattle.std.proofs.Common.{◌≡◌, length, rules, arith}
use Rattle.std.specs.Prelude.{FitsSigned}
use Rattle.std.specs.Int.{w128}
use Rattle.std.proofs.lemmas.Int.{to_z-of_z}
use Rattle.std.proofs.lemmas.Result.{err_from_is_err_and}
use Rattle.savepoint_codec.proofs.NumbersFacts.{number_read, number_fails, numbers_read}
use Rattle.savepoint_codec.proofs.groups.read_numbers.Goals as goal

pub returns-in_err-number : goal.returns-in_err-number
returns-in_err-number c =
    let e = err_from_is_err_and c.from_residual.result c.from_residual.ensures.1 in
    rw (e.1, e.2) (number_fails c.args.kinds.now _ c.args.count c.loop-i.i c.loop-i.numbers c.loop-i.rest.now c.args.bytes.now c.in_err-number.field-0.0 c.loop-i-test.true c.in_err-number.ensures c.loop-i.invariant)

pub loop-i-preserved : goal.loop-i-preserved
loop-i-preserved c =
    let fits : FitsSigned w128 c.in_ok-number.number = search rules in
    let long : length c.loop-i.numbers ≡ length c.args.kinds.now = omega arith in
    let here = number_read c.args.kinds.now _ c.args.count c.loop-i.i c.loop-i.numbers c.loop-i.rest.now c.args.bytes.now c.in_ok-number.number c.in_ok-number.after.now c.loop-i-test.true long c.in_ok-number.ensures c.loop-i.invariant in
    rw (to_z-of_z w128 c.in_ok-number.number fits) here

pub returns : goal.returns
returns c =
    let long : length c.loop-i.numbers ≡ length c.args.kinds.now = omega arith in
    numbers_read c.args.kinds.now c.args.count c.loop-i.i c.loop-i.numbers c.loop-i.rest.now c.args.bytes.now c.loop-i-test.false long c.loop-i.invariant
