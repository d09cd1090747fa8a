use Rattle.command_line.specs.Words.{export_shape, diff_shape, rows_shape}
use Rattle.command_line.proofs.words.with_tables.Goals as goal

pub returns : goal.returns
returns c =
    let first = c.with-command.ensures _ export_shape c.with_texts.ensures c.export_words.ensures in
    let second = c.with-command-2.ensures _ diff_shape first c.diff_words.ensures in
    c.with.ensures _ rows_shape second c.rows_words.ensures
