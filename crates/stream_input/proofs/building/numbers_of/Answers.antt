use Rattle.std.proofs.Common.{ℤ, List, ◌++◌, map, ap, ◌∙◌}
use Rattle.plain_data.specs.Record.{column_of}
use Rattle.columns.proofs.Facts.{by_columns-more}
use Rattle.input_texts.specs.Said.{record_of}
use Rattle.stream_input.proofs.building.numbers_of.Goals as goal

pub loop-column-preserved : goal.loop-column-preserved
loop-column-preserved c =
    let records = map record_of c.args.rows.now in
    c.in_ok-put_column.ensures ∙ ap (λ (numbers : List ℤ). numbers ++ column_of c.loop-column.column records) c.loop-column.invariant
    ∙ by_columns-more c.loop-column.column records
