use Rattle.std.proofs.Common.{rules, Ok, map, subst, string_bytes}
use Rattle.std.specs.Io.KnownBytes.{Appends}
use Rattle.row_lines.specs.Rows.{numbers_in}
use Rattle.row_lines.specs.Sequences.{IsNext, rows_left, width_of, last_of}
use Rattle.row_export.specs.Shown.{ShowsRow, kinds_of, csv_line}
use Rattle.row_export.proofs.Tables.{begins, finished, goes_on}
use Rattle.row_export.proofs.writing.put_rows.Goals as goal

pub loop-init : goal.loop-init
loop-init g c = begins g.R.Read.remaining csv_line (kinds_of c.args.table.now) (map string_bytes c.args.names.now) c.args.rows.now (g.W.Write.contents c.args.out.now)

pub returns-in-Ok-None-clause-table : goal.returns-in-Ok-None-clause-table
returns-in-Ok-None-clause-table g c =
    let remaining = g.R.Read.remaining in
    let out = g.W.Write.contents c.loop.out in
    c.loop.invariant.whole out
    (finished csv_line (kinds_of c.args.table.now) (map string_bytes c.args.names.now) (width_of c.loop.rows) (last_of c.loop.rows) (rows_left remaining c.loop.rows) out
    (subst (λ row. IsNext remaining c.loop.rows c.advance.new.self (Ok row)) c.in-Ok-None.field-0-is c.in-Ok-None.ensures.next))

pub loop-preserved : goal.loop-preserved
loop-preserved g c =
    let line = csv_line in
    let is = c.in_ok-fill_record-in-Ok-Some.ensures.record in
    let out = g.W.Write.contents c.loop.out in
    let next = g.W.Write.contents c.write_all.new.self in
    let wrote : Appends out next c.fill_record.new.line.items = search rules in
    goes_on g.R.Read.remaining line (kinds_of c.args.table.now) (map string_bytes c.args.names.now) c.args.rows.now (g.W.Write.contents c.args.out.now) c.loop.rows c.advance.new.self out next
    c.in-Ok-Some.row is.cells c.loop.invariant
    (subst (λ row. IsNext g.R.Read.remaining c.loop.rows c.advance.new.self (Ok row)) c.in-Ok-Some.field-0-is c.in-Ok-Some.ensures.next)
    (subst (λ kinds. ShowsRow kinds (map string_bytes c.args.names.now) (numbers_in c.in-Ok-Some.row) is.cells) c.deref.ensures.value is.shown) (subst (Appends out next) {y = line is.cells} is.text wrote)
