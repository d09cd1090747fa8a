use Rattle.std.proofs.Common.{arith}
use Rattle.std.specs.Str.Parse.{digits_value}
use Rattle.std.proofs.Common.{◌++◌}
use Rattle.field_values.proofs.Numbers.{power_at_least}
use Rattle.decimal_texts.proofs.digits.raised_number.Goals as goal

pub returns-in_err-number : goal.returns-in_err-number
returns-in_err-number c =
    let least = power_at_least (digits_value 10 (c.args.front.now ++ c.args.back.now)) c.args.places in
    rw c.from_residual.ensures (λ small. omega (arith, c.in_err-number.ensures, least))

pub returns : goal.returns
returns c = rw (← c.in_ok-number.ensures.1) c.raised.ensures
