use Rattle.std.proofs.Common.{arith}
use Rattle.field_values.proofs.Numbers.{power_at_least}
use Rattle.decimal_texts.proofs.products.raised_wide.Goals as goal

pub returns-in-Err : goal.returns-in-Err
returns-in-Err c = λ small. c.in-Err.ensures (omega (arith, power_at_least c.args.number c.args.places))
