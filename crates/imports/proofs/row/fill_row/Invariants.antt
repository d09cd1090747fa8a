use Rattle.std.proofs.Common.{take}
use Rattle.csv.specs.Records.{fields_of}
use Rattle.imports.specs.Rows.{AreFirst}
use Rattle.imports.proofs.row.fill_row.Given as goal

abbrev pub invariant-loop-i : goal.invariant-loop-i
invariant-loop-i l = AreFirst l.rule (fields_of l.record) l.fn.names (take l.i l.rule.columns.now) l.row.numbers.items l.names
