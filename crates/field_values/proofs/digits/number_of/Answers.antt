use Rattle.std.proofs.Common.{arith, rules, ◌^◌, ◌<◌, ◌∙◌}
use Rattle.std.specs.Str.Parse.{digits_value}
use Rattle.field_values.proofs.Numbers.{short_value, value_below, given}
use Rattle.field_values.proofs.digits.number_of.Goals as goal

pub overflow_cast-result : goal.overflow_cast-result
overflow_cast-result c =
    let short = short_value c.args.digits.now c.requires.digits c.requires.few in
    let value = given c.digits_after.result (digits_value 10 c.args.digits.now) (omega (arith, short)) c.digits_after.ensures in
    let small : c.unwrap_or.result < 2 ^ 16 = omega (arith, short, c.unwrap_or.ensures ∙ value) in
    search rules

pub returns-clause-value : goal.returns-clause-value
returns-clause-value c =
    let short = short_value c.args.digits.now c.requires.digits c.requires.few in
    c.unwrap_or.ensures ∙ given c.digits_after.result (digits_value 10 c.args.digits.now) (omega (arith, short)) c.digits_after.ensures

pub returns-clause-small : goal.returns-clause-small
returns-clause-small c =
    let short = short_value c.args.digits.now c.requires.digits c.requires.few in
    let value = given c.digits_after.result (digits_value 10 c.args.digits.now) (omega (arith, short)) c.digits_after.ensures in
    omega (arith, value_below c.args.digits.now c.requires.digits, c.unwrap_or.ensures ∙ value)
