use Rattle.std.proofs.Common.{IfOk, map, string_bytes, sym, subst}
use Rattle.row_lines.specs.Sequences.{rows_left, width_of, last_of}
use Rattle.row_export.specs.Shown.{kinds_of, titles_of}
use Rattle.row_commands.specs.Telling.{WritesRows}
use Rattle.row_commands.proofs.exporting.write_rows.Goals as goal

pub returns-in-Table : goal.returns-in-Table
returns-in-Table g c =
    subst (λ form. IfOk c.write_table.result (λ done. WritesRows form (kinds_of c.args.table.now) (titles_of c.args.table.now) (map string_bytes c.args.names.now) (width_of c.args.rows.now) (last_of c.args.rows.now)
    (rows_left g.R.Read.remaining c.args.rows.now) (g.W.Write.contents c.args.out) (g.W.Write.contents done))) (sym c.in-Table.is) c.write_table.ensures.table

pub returns-in-Objects : goal.returns-in-Objects
returns-in-Objects g c =
    subst (λ form. IfOk c.write_objects.result (λ done. WritesRows form (kinds_of c.args.table.now) (titles_of c.args.table.now) (map string_bytes c.args.names.now) (width_of c.args.rows.now) (last_of c.args.rows.now)
    (rows_left g.R.Read.remaining c.args.rows.now) (g.W.Write.contents c.args.out) (g.W.Write.contents done))) (sym c.in-Objects.is) c.write_objects.ensures.table
