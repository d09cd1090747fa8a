use Rattle.std.proofs.Common.{rules, arith}
use Rattle.field_values.proofs.Forms.{no_minutes}
use Rattle.field_values.proofs.zone.minutes_of.Goals as goal

pub returns-then-is_empty : goal.returns-then-is_empty
returns-then-is_empty c = no_minutes c.args.rest.now (grind (arith, c.is_empty.ensures, c.if-is_empty.true))
