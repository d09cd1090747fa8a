use Rattle.std.proofs.Common.{arith, ◌≡◌, ◌*◌}
use Rattle.field_values.specs.Decimals.{magnitude}
use Rattle.field_values.proofs.Numbers.{magnitude_from, whole_at_least, all_at_least}
use Rattle.field_values.proofs.decimal.magnitude.Goals as goal

pub returns-in_err-before : goal.returns-in_err-before
returns-in_err-before c =
    rw (c.from_residual.ensures) (λ small. omega (arith, c.in_err-before.ensures, whole_at_least c.args.places c.args.whole.now c.args.decimals.now))

pub returns-in_err-all : goal.returns-in_err-all
returns-in_err-all c =
    rw (c.from_residual-in_err-all.ensures) (λ small. omega (arith, c.in_err-all.ensures, all_at_least c.args.places c.args.whole.now c.args.decimals.now c.in_ok-before.before c.in_ok-before.ensures.1))

pub returns : goal.returns
returns c =
    let e : magnitude c.args.places c.args.whole.now c.args.decimals.now ≡ c.in_ok-all.all * c.pow.result
    = magnitude_from c.args.places c.args.whole.now c.args.decimals.now _ _ _ c.in_ok-before.ensures.1 c.in_ok-all.ensures.1 c.pow.ensures in
    rw e c.checked_mul.ensures
