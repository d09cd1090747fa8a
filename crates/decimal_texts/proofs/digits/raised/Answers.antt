use Rattle.std.proofs.Common.{arith}
use Rattle.decimal_texts.proofs.Shifts.{too_many_places}
use Rattle.decimal_texts.proofs.digits.raised.Goals as goal

pub returns-then-places-gt19 : goal.returns-then-places-gt19
returns-then-places-gt19 c = λ small. omega (arith, too_many_places c.args.number c.args.places (omega arith) (omega arith))
