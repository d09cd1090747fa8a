use Rattle.std.proofs.Common.{arith, ℕ, ap}
use Rattle.std.specs.Str.Parse.{digits_value, digits_value_after}
use Rattle.field_values.proofs.Numbers.{after_joined, after_at_least}
use Rattle.decimal_texts.proofs.digits.number_of_both.Goals as goal

pub returns-in_err-before : goal.returns-in_err-before
returns-in_err-before c =
    let joined = after_joined 0 c.args.front.now c.args.back.now in
    let least = after_at_least (digits_value 10 c.args.front.now) c.args.back.now in
    rw c.from_residual.ensures (λ small. omega (arith, c.in_err-before.ensures, joined, least))

pub returns : goal.returns
returns c =
    let joined = after_joined 0 c.args.front.now c.args.back.now in
    let here = ap (λ (n : ℕ). digits_value_after 10 n c.args.back.now) c.in_ok-before.ensures.1 in
    rw joined (rw here at c.digits_after-2.ensures)
