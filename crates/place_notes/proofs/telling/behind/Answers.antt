use Rattle.std.proofs.Common.{◌+◌, length, arith}
use Rattle.std.proofs.lemmas.Grind.{common_steps}
use Rattle.place_notes.proofs.telling.behind.Goals as goal

pub returns-in-Some : goal.returns-in-Some
returns-in-Some g c = (c.in-Some.place + 1, omega arith, grind (arith, common_steps))

pub returns-in-None : goal.returns-in-None
returns-in-None g c = (length c.args.faults.now + 1, omega arith, grind (arith, common_steps))
