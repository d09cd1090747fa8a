use Rattle.std.proofs.Common.{refl}
use Rattle.command_line.proofs.Commands.{done, none}
use Rattle.command_line.proofs.outcomes.chosen.Goals as goal

pub returns-in-Some : goal.returns-in-Some
returns-in-Some g c = done _ c.in-Some.command c.performed.result _ c.in-Some.ensures c.performed.ensures c.done.ensures

pub returns-in-None : goal.returns-in-None
returns-in-None g c = none _ _ c.in-None.ensures refl
