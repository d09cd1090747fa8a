use Rattle.std.proofs.Common.{take}
use Rattle.imports.specs.Placing.{AreFields}
use Rattle.imports.proofs.kinds.fields_of.Given as goal

abbrev pub invariant-loop-column : goal.invariant-loop-column
invariant-loop-column l = AreFields (take l.column-index l.columns) l.fields.items
