use Rattle.std.proofs.Common.{rules, ◌≡◌, length, map, string_bytes, Some, None, subst}
use Rattle.row_lines.specs.Sequences.{rows_left, width_of, last_of}
use Rattle.row_export.specs.Shown.{kinds_of, kinds_shown, titles_of}
use Rattle.row_export.specs.Titles.{titles_shown}
use Rattle.row_commands.specs.Telling.{WritesRows}
use Rattle.row_commands.proofs.exporting.export.Goals as goal

pub returns-in-Ok-write_rows : goal.returns-in-Ok-write_rows
returns-in-Ok-write_rows g c =
    let window = c.args.plan.now.window in
    let columns = c.deref.result.now in
    let names = map string_bytes c.names.result.now in
    let before = g.W.Write.contents c.args.out in
    let after = g.W.Write.contents c.in-Ok-write_rows.out in
    let kinds : kinds_of c.in_ok-table.table ≡ kinds_shown window columns = c.in_ok-table.ensures.kinds in
    let titles : titles_of c.in_ok-table.table ≡ titles_shown window columns = c.in_ok-table.ensures.titles in
    let width : width_of c.in_ok-rows.rows ≡ Some (length window.aggregates) = search rules in
    let text = rows_left g.R.File.Read.remaining c.in_ok-rows.rows in
    let told : WritesRows c.in_ok-form.form (kinds_of c.in_ok-table.table) (titles_of c.in_ok-table.table) names (width_of c.in_ok-rows.rows) (last_of c.in_ok-rows.rows) text before after = c.in-Ok-write_rows.ensures in (
      c.in_ok-form.form,
      columns,
      names,
      text,
      subst (λ ks. WritesRows c.in_ok-form.form ks (titles_shown window columns) names (Some (length window.aggregates)) None text before after) kinds
          (subst (λ ts. WritesRows c.in_ok-form.form (kinds_of c.in_ok-table.table) ts names (Some (length window.aggregates)) None text before after) titles
          (subst (λ w. WritesRows c.in_ok-form.form (kinds_of c.in_ok-table.table) (titles_of c.in_ok-table.table) names w None text before after) width
          (subst (λ l. WritesRows c.in_ok-form.form (kinds_of c.in_ok-table.table) (titles_of c.in_ok-table.table) names (width_of c.in_ok-rows.rows) l text before after) c.in_ok-rows.ensures.last told))),
    )
