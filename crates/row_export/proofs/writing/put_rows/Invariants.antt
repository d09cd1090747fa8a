use Rattle.std.proofs.Common.{map, string_bytes}
use Rattle.row_export.specs.Shown.{kinds_of, csv_line}
use Rattle.row_export.proofs.Tables.{Continues}
use Rattle.row_export.proofs.writing.put_rows.Given as goal

abbrev pub invariant-loop : goal.invariant-loop
invariant-loop g l = Continues g.R.Read.remaining csv_line (kinds_of l.table) (map string_bytes l.names) l.fn.rows (g.W.Write.contents l.fn.out) l.rows (g.W.Write.contents l.out)
