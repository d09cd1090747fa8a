use Rattle.std.proofs.Common.{inl, inr, refl}
use Rattle.commands.proofs.importing.import.Goals as goal

pub returns-in-Ok : goal.returns-in-Ok
returns-in-Ok g c = inr (c.import.result, c.after_import.ensures)

pub returns-in-Err : goal.returns-in-Err
returns-in-Err g c = inl (c.in-Err.fault, c.in-Err.ensures, refl)
