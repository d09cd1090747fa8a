use Rattle.std.proofs.Common.{ℤ, List, ◌++◌, ap, ◌∙◌}
use Rattle.plain_data.specs.Record.{column_of}
use Rattle.columns.specs.Table.{rows_in}
use Rattle.columns.proofs.Columns.{by_columns-more}
use Rattle.columns.proofs.rows.numbers_of.Goals as goal

pub loop-c-preserved : goal.loop-c-preserved
loop-c-preserved c =
    let rows = rows_in c.args.rows.now in
    c.in_ok-put_column.ensures ∙ ap (λ (numbers : List ℤ). numbers ++ column_of c.loop-c.c rows) c.loop-c.invariant ∙ by_columns-more c.loop-c.c rows
